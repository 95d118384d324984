-- The laws of the operations on windows and tabpages.
use Rattle.std.proofs.Common.{◌≡◌, ◌≢◌, ℕ, ℤ, ◌+◌, ◌-◌, ◌<◌, ◌^◌, Bool, true, false, ◌&&◌, min, List, [], ◌∷◌, map, Option, Some, None, refl, ap, sym, ◌∙◌, subst, arith}
use Rattle.std.specs.Prelude.{pos, ◌+ℤ◌, ◌≤ℤ◌, if◌then◌else◌, nat_lt, ◌==◌, ◌||◌, ◌++◌, flat_map, Result, Ok, Err, OnOk, OnErr}
use Rattle.std.specs.Option.{option_map_or}
use Rattle.std.specs.Ordering.{int_eq}
use Rattle.std.proofs.lemmas.Bool.Decides.{nat_tests}
use Rattle.std.proofs.lemmas.Int.{ints}
use Rattle.nv_places.specs.Moves.{carried_place}
use Rattle.nv_places.specs.Places.{is_before, further}
use Rattle.nv_places.specs.declared.place.Pos.{Pos}
use Rattle.nv_places.specs.declared.place.Extent.{Extent}
use Rattle.nv_layout.specs.declared.nodes.Side.{Side}
use Rattle.nv_windows.specs.Workspace.{Page, Workspace, handles_of_windows, tabpage_of, window_on}
use Rattle.nv_windows.specs.Rooms.{has_one_window, has_room_beside, has_window_left, has_handles_left, all_fit}
use Rattle.nv_windows.specs.Operations.{with_window, entered_where, after_opening, is_only_window, closed_in, after_close, has_one_tabpage, after_tab_close, without_tabpage, without_window, after_tab_new, with_tabpage, with_size, after_sizing, window_instead}
use Rattle.nv_windows.specs.Views.{place_after, view_after, view_showing, row_begin, row_within}
use Rattle.nv_windows.specs.Sound.{IsSoundWorkspace}
use Rattle.nv_windows.specs.Laws.{SoundnessStays, HandlesRise, ViewsStay}
use Rattle.nv_windows.specs.declared.window.Opened.TheVariants.{Window as OpenedWindow, NoId, NoRoom}
use Rattle.nv_windows.specs.declared.window.Window.{Window}
use Rattle.nv_windows.proofs.Changed.{homes, below_none}
use Rattle.nv_windows.proofs.Soundness.{same_windows_sound, at_tabpage_sound, at_window_sound, live_home, live_tab_times, wish_sound, with_window_sound, once_self, push_times}
use Rattle.nv_windows.proofs.SoundClosing.{without_window_sound}
use Rattle.nv_windows.proofs.SoundTabs.{with_tabpage_sound, without_tabpage_sound, with_size_sound, fresh_sound}
use Rattle.std.proofs.lemmas.List.{map-append}
use Rattle.nv_windows.specs.Sound.{times_among}

-- ---- opening
next_home : (ws : Workspace) (beside : ℤ) (side : Side) (buffer : ℤ) (width height : ℕ) → IsSoundWorkspace ws → IsSoundWorkspace (with_window beside side buffer width height ws)
    → homes ws.next_window (with_window beside side buffer width height ws).tabpages ≡ 1
next_home ws beside side buffer width height sound now =
    let names = map-append (λ (w : Window). w.handle) ws.windows (window_on ws.next_window buffer ∷ []) in
    omega (
      arith,
      now.homes ws.next_window,
      ap (times_among ws.next_window) names,
      push_times ws.next_window (handles_of_windows ws.windows) ws.next_window,
      below_none ws.next_window (handles_of_windows ws.windows) sound.below,
      once_self ws.next_window,
    )

pub opening_sound : (ws : Workspace) (beside : ℤ) (side : Side) (buffer : ℤ) (width height : ℕ) (enter : Bool) → IsSoundWorkspace ws → IsSoundWorkspace (after_opening beside side buffer width height enter ws)
opening_sound ws beside side buffer width height enter sound = by_case (has_window_left ws) refl (has_room_beside ws beside side) refl
  where
    entered : (b : Bool) → IsSoundWorkspace (with_window beside side buffer width height ws) → IsSoundWorkspace (entered_where b ws.next_window (with_window beside side buffer width height ws))
    entered true now = at_window_sound (with_window beside side buffer width height ws) ws.next_window (next_home ws beside side buffer width height sound now) now
    entered false now = now

    by_case : (a : Bool) → has_window_left ws ≡ a → (b : Bool) → has_room_beside ws beside side ≡ b
        → IsSoundWorkspace (if has_window_left ws && has_room_beside ws beside side then entered_where enter ws.next_window (with_window beside side buffer width height ws) else ws)
    by_case true is true there =
        subst (λ c. IsSoundWorkspace (if c then entered_where enter ws.next_window (with_window beside side buffer width height ws) else ws)) (sym (ap (λ c. c && has_room_beside ws beside side) is ∙ there))
        (entered enter (with_window_sound ws beside side buffer width height is there sound))
    by_case true is false there =
        subst (λ c. IsSoundWorkspace (if c then entered_where enter ws.next_window (with_window beside side buffer width height ws) else ws)) (sym (ap (λ c. c && has_room_beside ws beside side) is ∙ there)) sound
    by_case false is b there =
        subst (λ c. IsSoundWorkspace (if c then entered_where enter ws.next_window (with_window beside side buffer width height ws) else ws)) (sym (ap (λ c. c && has_room_beside ws beside side) is)) sound

-- ---- closing
pub close_sound : (ws : Workspace) (w : ℤ) → IsSoundWorkspace ws → IsSoundWorkspace (after_close w ws)
close_sound ws w sound = by_case (tabpage_of ws w) refl
  where
    for : (o : Option Page) → tabpage_of ws w ≡ o → IsSoundWorkspace (if option_map_or (λ t. has_one_tabpage ws && has_one_window t) o true then ws else option_map_or (closed_in w ws) o ws)
    for None e = sound
    for (Some t) e = by_test (has_one_tabpage ws) refl (has_one_window t) refl
      where
        by_test : (a : Bool) → has_one_tabpage ws ≡ a → (b : Bool) → has_one_window t ≡ b
            → IsSoundWorkspace (if has_one_tabpage ws && has_one_window t then ws else (if has_one_window t then without_tabpage t.handle ws else without_window w ws))
        by_test true is true one = subst (λ c. IsSoundWorkspace (if c then ws else (if has_one_window t then without_tabpage t.handle ws else without_window w ws))) (sym (ap (λ c. c && has_one_window t) is ∙ one)) sound
        by_test false is true one =
            subst (λ c. IsSoundWorkspace (if c then ws else (if has_one_window t then without_tabpage t.handle ws else without_window w ws))) (sym (ap (λ c. c && has_one_window t) is))
            (subst (λ c. IsSoundWorkspace (if c then without_tabpage t.handle ws else without_window w ws)) (sym one) (without_tabpage_sound ws t.handle is sound))
        by_test a is false one =
            subst (λ c. IsSoundWorkspace (if c then ws else (if has_one_window t then without_tabpage t.handle ws else without_window w ws))) (sym (never (has_one_tabpage ws) (has_one_window t) one))
            (subst (λ c. IsSoundWorkspace (if c then without_tabpage t.handle ws else without_window w ws)) (sym one) (without_window_sound ws w t e one sound))
          where
            never : (x y : Bool) → y ≡ false → (x && y) ≡ false
            never true y f = f
            never false y f = refl

    by_case : (o : Option Page) → tabpage_of ws w ≡ o → IsSoundWorkspace (after_close w ws)
    by_case o e = subst (λ p. IsSoundWorkspace (if option_map_or (λ t. has_one_tabpage ws && has_one_window t) p true then ws else option_map_or (closed_in w ws) p ws)) (sym e) (for o e)

pub tab_close_sound : (ws : Workspace) → IsSoundWorkspace ws → IsSoundWorkspace (after_tab_close ws)
tab_close_sound ws sound = by_case (has_one_tabpage ws) refl
  where
    by_case : (b : Bool) → has_one_tabpage ws ≡ b → IsSoundWorkspace (if has_one_tabpage ws then ws else without_tabpage ws.tabpage ws)
    by_case true is = subst (λ c. IsSoundWorkspace (if c then ws else without_tabpage ws.tabpage ws)) (sym is) sound
    by_case false is = subst (λ c. IsSoundWorkspace (if c then ws else without_tabpage ws.tabpage ws)) (sym is) (without_tabpage_sound ws ws.tabpage is sound)

pub tab_new_sound : (ws : Workspace) (buffer : ℤ) → IsSoundWorkspace ws → IsSoundWorkspace (after_tab_new buffer ws)
tab_new_sound ws buffer sound = by_case (has_handles_left ws) refl
  where
    by_case : (b : Bool) → has_handles_left ws ≡ b → IsSoundWorkspace (if has_handles_left ws then with_tabpage buffer ws else ws)
    by_case true is = subst (λ c. IsSoundWorkspace (if c then with_tabpage buffer ws else ws)) (sym is) (with_tabpage_sound ws buffer is sound)
    by_case false is = subst (λ c. IsSoundWorkspace (if c then with_tabpage buffer ws else ws)) (sym is) sound

pub sizing_sound : (ws : Workspace) (width height : ℕ) → width < 2 ^ 16 → height < 2 ^ 16 → IsSoundWorkspace ws → IsSoundWorkspace (after_sizing width height ws)
sizing_sound ws width height wide high sound = by_case (all_fit width height ws) refl
  where
    by_case : (b : Bool) → all_fit width height ws ≡ b → IsSoundWorkspace (if all_fit width height ws then with_size width height ws else ws)
    by_case true is = subst (λ c. IsSoundWorkspace (if c then with_size width height ws else ws)) (sym is) (with_size_sound ws width height wide high is sound)
    by_case false is = subst (λ c. IsSoundWorkspace (if c then with_size width height ws else ws)) (sym is) sound

-- ---- views
same_names : (f : Window → Window) → ((w : Window) → (f w).handle ≡ w.handle) → (ws : List Window) → handles_of_windows (map f ws) ≡ handles_of_windows ws
same_names f keeps [] = refl
same_names f keeps (w ∷ ws) = (λ i. keeps w i ∷ same_names f keeps ws i)

keeps_name : (b : Bool) (v w : Window) → v.handle ≡ w.handle → (if b then v else w).handle ≡ w.handle
keeps_name true v w e = e
keeps_name false v w e = refl

pub views_sound : (ws : Workspace) (f : Window → Window) → ((w : Window) → (f w).handle ≡ w.handle) → IsSoundWorkspace ws → IsSoundWorkspace (record ws { windows = map f ws.windows })
views_sound ws f keeps sound = same_windows_sound ws (map f ws.windows) (same_names f keeps ws.windows) sound

pub soundness_stays : SoundnessStays
soundness_stays = record {
  fresh = fresh_sound;
  opening = opening_sound;
  close = close_sound;
  tab_close = tab_close_sound;
  tab_new = tab_new_sound;
  sizing = sizing_sound;
  wish = wish_sound;
  entering = λ ws w live sound. at_window_sound ws w (live_home ws w sound live) sound;
  tab_entering = λ ws n live sound. at_tabpage_sound ws n (live_tab_times n ws.tabpages live) sound;
  cursor = λ ws w p sound. views_sound ws (λ v. if int_eq v.handle w then record v { cursor = p } else v) (λ v. keeps_name (int_eq v.handle w) (record v { cursor = p }) v refl) sound;
  top = λ ws w row sound. views_sound ws (λ v. if int_eq v.handle w then record v { top = row } else v) (λ v. keeps_name (int_eq v.handle w) (record v { top = row }) v refl) sound;
  showing = λ ws w buffer sound. views_sound ws (λ v. if int_eq v.handle w then window_on v.handle buffer else v) (λ v. keeps_name (int_eq v.handle w) (window_on v.handle buffer) v refl) sound;
  showing_instead = λ ws old new sound. views_sound ws (window_instead old new) (λ v. keeps_name (int_eq v.buffer old) (window_on v.handle new) v refl) sound;
  splice = λ ws n m sound. views_sound ws (view_showing n m) (λ v. keeps_name (int_eq v.buffer n) (view_after m v) v refl) sound;
}

-- ---- handles
entered_next : (b : Bool) (w : ℤ) (ws : Workspace) → ((entered_where b w ws).next_window ≡ ws.next_window) × ((entered_where b w ws).next_tabpage ≡ ws.next_tabpage)
entered_next true w ws = (refl, refl)
entered_next false w ws = (refl, refl)

pub handles_rise : HandlesRise
handles_rise = record {
  window = λ ws beside side buffer width height enter n e. given ws beside side buffer width height enter n (has_window_left ws) (has_room_beside ws beside side) e;
  tabpage = λ ws buffer n e. given_tab ws buffer n (has_handles_left ws) e;
  opening = λ ws beside side buffer width height enter. kept ws beside side buffer width height enter (has_window_left ws && has_room_beside ws beside side);
  close = λ ws w. closed ws w (is_only_window ws w) (tabpage_of ws w);
  tab_close = λ ws. tab_closed ws (has_one_tabpage ws);
}
  where
    given : (ws : Workspace) (beside : ℤ) (side : Side) (buffer : ℤ) (width height : ℕ) (enter : Bool) (n : ℤ) (a b : Bool)
        → (if a then (if b then OpenedWindow ws.next_window else NoRoom) else NoId) ≡ OpenedWindow n
        → (n ≡ ws.next_window) × ((if a && b then entered_where enter ws.next_window (with_window beside side buffer width height ws) else ws).next_window ≡ n +ℤ pos 1)
    given ws beside side buffer width height enter n true true e =
        let same : ws.next_window ≡ n = cc in
        (sym same, (entered_next enter ws.next_window (with_window beside side buffer width height ws)).0 ∙ ap (λ k. k +ℤ pos 1) same)
    given ws beside side buffer width height enter n true false e = cc
    given ws beside side buffer width height enter n false b e = cc

    given_tab : (ws : Workspace) (buffer n : ℤ) (a : Bool) → (if a then Some ws.next_tabpage else None) ≡ Some n
        → (n ≡ ws.next_tabpage) × ((if a then with_tabpage buffer ws else ws).next_tabpage ≡ n +ℤ pos 1) × ((if a then with_tabpage buffer ws else ws).next_window ≡ ws.next_window +ℤ pos 1)
    given_tab ws buffer n true e = let same : ws.next_tabpage ≡ n = cc in (sym same, ap (λ k. k +ℤ pos 1) same, refl)
    given_tab ws buffer n false e = cc

    kept : (ws : Workspace) (beside : ℤ) (side : Side) (buffer : ℤ) (width height : ℕ) (enter a : Bool)
        → (ws.next_window ≤ℤ (if a then entered_where enter ws.next_window (with_window beside side buffer width height ws) else ws).next_window)
        × ((if a then entered_where enter ws.next_window (with_window beside side buffer width height ws) else ws).next_tabpage ≡ ws.next_tabpage)
    kept ws beside side buffer width height enter true =
        let e = entered_next enter ws.next_window (with_window beside side buffer width height ws) in
        (subst (λ k. ws.next_window ≤ℤ k) (sym e.0) (omega (arith, ints)), e.1)
    kept ws beside side buffer width height enter false = (omega (arith, ints), refl)

    closed : (ws : Workspace) (w : ℤ) (a : Bool) (o : Option Page)
        → ((if a then ws else option_map_or (closed_in w ws) o ws).next_window ≡ ws.next_window) × ((if a then ws else option_map_or (closed_in w ws) o ws).next_tabpage ≡ ws.next_tabpage)
    closed ws w true o = (refl, refl)
    closed ws w false None = (refl, refl)
    closed ws w false (Some t) = by_test (has_one_window t)
      where
        by_test : (b : Bool) → ((if b then without_tabpage t.handle ws else without_window w ws).next_window ≡ ws.next_window) × ((if b then without_tabpage t.handle ws else without_window w ws).next_tabpage ≡ ws.next_tabpage)
        by_test true = (refl, refl)
        by_test false = (refl, refl)

    tab_closed : (ws : Workspace) (a : Bool) → ((if a then ws else without_tabpage ws.tabpage ws).next_window ≡ ws.next_window) × ((if a then ws else without_tabpage ws.tabpage ws).next_tabpage ≡ ws.next_tabpage)
    tab_closed ws true = (refl, refl)
    tab_closed ws false = (refl, refl)

-- ---- splices
within_rows : (count row : ℕ) → count ≢ 0 → row_within count row < count
within_rows count row h = some (λ e. h e)
  where
    some : (count ≡ 0 → ⊥) → min row (count - 1) < count
    some f = grind arith

not_itself : (p : Pos) → is_before p p ≡ false
not_itself p = both (p.row) (p.col)
  where
    both : (r c : ℕ) → (nat_lt r r || (r == r && nat_lt c c)) ≡ false
    both r c = grind (arith, nat_tests)

not_past : (p : Pos) (e : Extent) → is_before (further p e) p ≡ false
not_past p e = by_rows (e.rows == 0) refl
  where
    in_row : (r c d : ℕ) → (nat_lt r r || (r == r && nat_lt (c + d) c)) ≡ false
    in_row r c d = grind (arith, nat_tests)

    below : (r s c d : ℕ) → (s == 0) ≡ false → (nat_lt (r + s) r || ((r + s) == r && nat_lt d c)) ≡ false
    below r s c d f = grind (arith, nat_tests)

    by_rows : (b : Bool) → (e.rows == 0) ≡ b → is_before (if b then record { row = p.row; col = p.col + e.cols } else record { row = p.row + e.rows; col = e.cols }) p ≡ false
    by_rows true is = in_row p.row p.col e.cols
    by_rows false is = below p.row e.rows p.col e.cols is

pub views_stay : ViewsStay
views_stay = record {
  cursor = λ m w some. within_rows m.count (place_after m w.cursor).row some;
  top = λ m w some. within_rows m.count (place_after m (row_begin w.top)).row some;
  before = λ m p e. ap (λ b. if b then p else (if is_before (further m.start m.old) p then carried_place (further m.start m.old) (further m.start m.new) p else m.start)) e;
  start = λ m.
      ap (λ b. if b then m.start else (if is_before (further m.start m.old) m.start then carried_place (further m.start m.old) (further m.start m.new) m.start else m.start)) (not_itself m.start)
      ∙ ap (λ b. if b then carried_place (further m.start m.old) (further m.start m.new) m.start else m.start) (not_past m.start m.old);
}

-- ---- after a call that may want memory
pub either_sound : {A E : Type 0} (r : Result A E) (now was later : Workspace) → OnOk r (now ≡ later) → OnErr r (now ≡ was) → IsSoundWorkspace was → IsSoundWorkspace later → IsSoundWorkspace now
either_sound (Ok a) now was later after err old new = subst IsSoundWorkspace (sym after) new
either_sound (Err e) now was later after err old new = subst IsSoundWorkspace (sym err) old

pub flat_map-map : {X Y Z : Type 0} (f : Y → List Z) (g : X → Y) (xs : List X) → flat_map f (map g xs) ≡ flat_map (λ x. f (g x)) xs
flat_map-map f g [] = refl
flat_map-map f g (x ∷ xs) = ap (λ l. f (g x) ++ l) (flat_map-map f g xs)
