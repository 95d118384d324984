-- Making and closing a tabpage, another size, and the first window keep what windows and tabpages keep to.
use Rattle.std.proofs.Common.{◌≡◌, ℕ, zero, suc, ℤ, ◌+◌, ◌-◌, ◌<◌, ◌≤◌, ◌^◌, Bool, true, false, not, cond, min, List, [], ◌∷◌, ◌++◌, length, get_or, All, refl, ap, sym, ◌∙◌, subst, arith}
use Rattle.std.specs.Prelude.{pos, ◌+ℤ◌, ◌≤ℤ◌, ◌<ℤ◌, filter, if◌then◌else◌, ◌==◌}
use Rattle.std.specs.List.{list_all}
use Rattle.std.specs.Ordering.{int_eq}
use Rattle.std.proofs.lemmas.Bool.Decides.{nat_tests, Decides-int_eq}
use Rattle.std.proofs.lemmas.Int.{ints}
use Rattle.std.proofs.lemmas.List.{length-map, map-append}
use Rattle.std.proofs.lemmas.List.Elements.{All-nil, All-cons, All-head, All-tail, All-weaker, All-filter}
use Rattle.nv_layout.specs.Content.{Shape, leaf, group, no_shapes, more_shapes}
use Rattle.nv_layout.specs.Least.{least, NoneEmpty}
use Rattle.nv_layout.specs.declared.nodes.Axis.TheVariants.{Across, Down}
use Rattle.nv_windows.specs.Workspace.{Page, Workspace, handles_of_windows, fresh_workspace, plain_leaf, window_on}
use Rattle.nv_windows.specs.Rooms.{fits_screen, all_fit, has_window_left, has_tabpage_left, has_handles_left, last_handle}
use Rattle.nv_windows.specs.Operations.{other_tabpages, without_tabpage, current_without, handle_at, place_among, is_in, put_behind, with_tabpage, with_size, has_one_tabpage}
use Rattle.nv_windows.specs.Sound.{IsSoundWorkspace, IsSoundPage, IsRisingFrom, times_among, handles_of_tabpages}
use Rattle.nv_windows.specs.declared.window.Window.{Window}
use Rattle.nv_windows.proofs.Counting.{once}
use Rattle.nv_windows.proofs.Changed.{homes, behind_homes, behind_handles, All-behind, times_without, homes_parts, in_some, in_none, length_others, rising_push, rising_filter, below_none}
use Rattle.nv_windows.proofs.Soundness.{home_most, roomy_from, below_more, left_is, push_times, both_true, once_self, next_below}

abbrev one_where : Bool → ℕ
one_where b = if b then 1 else 0

-- ---- the room of a tree that isn't empty
mutual
  least_some : (t : Shape) → NoneEmpty t → (1 ≤ least Across t) × (2 ≤ least Down t)
  least_some (leaf l) h = (omega arith, omega arith)
  least_some (group a no_shapes) h = absurd (omega (arith, h.0))
  least_some (group Across (more_shapes t ts)) h = let s = least_some t h.1.0 in (omega (arith, s.0), omega (arith, s.1))
  least_some (group Down (more_shapes t ts)) h = let s = least_some t h.1.0 in (omega (arith, s.0), omega (arith, s.1))

some_page : (ws : Workspace) (ts : List Page) (n : ℤ) → 0 < times_among n (handles_of_tabpages ts) → All (IsSoundPage ws.width ws.height) ts → (1 ≤ ws.width) × (2 ≤ ws.height - 1)
some_page ws [] n h all = absurd (omega arith)
some_page ws (t ∷ ts) n h all =
    let p = All-head (IsSoundPage ws.width ws.height) t ts all in
    let s = least_some t.tree p.filled in
    (omega (arith, s.0, p.roomy.wide), omega (arith, s.1, p.roomy.high))

-- ---- a tabpage made
All-handles : (P : ℤ → Type 0) (k : ℤ) (new : Page) (ts : List Page) → P new.handle → All P (handles_of_tabpages ts) → All P (handles_of_tabpages (put_behind k new ts))
All-handles P k new [] h all = All-cons P new.handle [] h all
All-handles P k new (t ∷ ts) h all = by_case (All-handles P k new ts h (All-tail P t.handle (handles_of_tabpages ts) all)) (int_eq t.handle k)
  where
    by_case : All P (handles_of_tabpages (put_behind k new ts)) → (b : Bool) → All P (handles_of_tabpages (if b then t ∷ new ∷ ts else t ∷ put_behind k new ts))
    by_case rest true =
        All-cons P t.handle (new.handle ∷ handles_of_tabpages ts) (All-head P t.handle (handles_of_tabpages ts) all)
        (All-cons P new.handle (handles_of_tabpages ts) h (All-tail P t.handle (handles_of_tabpages ts) all))
    by_case rest false = All-cons P t.handle (handles_of_tabpages (put_behind k new ts)) (All-head P t.handle (handles_of_tabpages ts) all) rest

pub with_tabpage_sound : (ws : Workspace) (buffer : ℤ) → has_handles_left ws ≡ true → IsSoundWorkspace ws → IsSoundWorkspace (with_tabpage buffer ws)
with_tabpage_sound ws buffer left sound =
    let both = both_true (has_window_left ws) (has_tabpage_left ws) left in
    let new : Page = record { handle = ws.next_tabpage; tree = plain_leaf ws.next_window; current = ws.next_window } in
    let room = some_page ws ws.tabpages ws.tabpage (omega (arith, sound.current)) sound.pages in
    let names : handles_of_windows (ws.windows ++ window_on ws.next_window buffer ∷ []) ≡ handles_of_windows ws.windows ++ ws.next_window ∷ [] = map-append (λ (w : Window). w.handle) ws.windows (window_on ws.next_window buffer ∷ []) in
    let fresh : times_among ws.next_tabpage (handles_of_tabpages ws.tabpages) ≡ 0 =
    below_none ws.next_tabpage (handles_of_tabpages ws.tabpages) (All-weaker (λ n. (pos 1 ≤ℤ n) × (n <ℤ ws.next_tabpage)) (λ n. n <ℤ ws.next_tabpage) (λ n p. p.1) (handles_of_tabpages ws.tabpages) sound.tabpages) in
    record {
      rising = subst (IsRisingFrom (pos 1000)) (sym names) (rising_push (pos 1000) (handles_of_windows ws.windows) ws.next_window sound.rising sound.next_window.0 sound.below);
      below = subst (All (λ k. k <ℤ (ws.next_window +ℤ pos 1))) (sym names) (below_more ws.next_window (handles_of_windows ws.windows) sound.below);
      homes = λ n. omega (arith, behind_homes n ws.tabpage new ws.tabpages, sound.homes n, ap (times_among n) names, push_times n (handles_of_windows ws.windows) ws.next_window);
      pages = All-behind (IsSoundPage ws.width ws.height) ws.tabpage new ws.tabpages (record {
        filled = tt;
        roomy = record { wide = room.0; high = room.1 };
        current = (Decides-int_eq ws.next_window ws.next_window).1 refl;
      }) sound.pages;
      apart = λ n. most n (put_behind ws.tabpage new ws.tabpages) (behind_handles n ws.tabpage new ws.tabpages) fresh;
      tabpages = All-handles (λ n. (pos 1 ≤ℤ n) × (n <ℤ (ws.next_tabpage +ℤ pos 1))) ws.tabpage new ws.tabpages (sound.next_tabpage.0, next_below ws.next_tabpage)
          (All-weaker (λ n. (pos 1 ≤ℤ n) × (n <ℤ ws.next_tabpage)) (λ n. (pos 1 ≤ℤ n) × (n <ℤ (ws.next_tabpage +ℤ pos 1))) (λ n p. (p.0, omega (arith, ints, p.1))) (handles_of_tabpages ws.tabpages) sound.tabpages);
      current = omega (arith, behind_handles ws.next_tabpage ws.tabpage new ws.tabpages, fresh, once_self ws.next_tabpage);
      width = sound.width;
      height = sound.height;
      next_window = (omega (arith, ints, sound.next_window.0), omega (arith, ints, left_is ws.next_window last_handle both.0));
      next_tabpage = (omega (arith, ints, sound.next_tabpage.0), omega (arith, ints, left_is ws.next_tabpage last_handle both.1));
    }
  where
    most : (n : ℤ) (ts : List Page) → times_among n (handles_of_tabpages ts) ≡ times_among n (handles_of_tabpages ws.tabpages) + once n ws.next_tabpage
        → times_among ws.next_tabpage (handles_of_tabpages ws.tabpages) ≡ 0 → times_among n (handles_of_tabpages ts) ≤ 1
    most n ts e fresh = by_case (int_eq ws.next_tabpage n) refl
      where
        by_case : (b : Bool) → int_eq ws.next_tabpage n ≡ b → times_among n (handles_of_tabpages ts) ≤ 1
        by_case true is =
            let none : times_among n (handles_of_tabpages ws.tabpages) ≡ 0 = ap (λ k. times_among k (handles_of_tabpages ws.tabpages)) (sym ((Decides-int_eq ws.next_tabpage n).0 is)) ∙ fresh in
            let one : once n ws.next_tabpage ≡ 1 = ap one_where is in
            omega (arith, e, none, one)
        by_case false is =
            let none : once n ws.next_tabpage ≡ 0 = ap one_where is in
            omega (arith, e, none, sound.apart n)

-- ---- a tabpage closed
handle_there : (place : ℕ) (ts : List Page) → 0 < length ts → 0 < times_among (handle_at place ts) (handles_of_tabpages ts)
handle_there place ts h = get_times (handles_of_tabpages ts) (min place (length ts - 1)) (omega (arith, h, length-map ts (λ (t : Page). t.handle)))
  where
    get_times : (ks : List ℤ) (i : ℕ) → i < length ks → 0 < times_among (get_or ks i (pos 0)) ks
    get_times [] i lt = absurd (omega arith)
    get_times (k ∷ ks) zero lt = omega (arith, once_self k)
    get_times (k ∷ ks) (suc i) lt = omega (arith, get_times ks i (omega arith))

below_kept : (p : Window → Bool) (next : ℤ) (vs : List Window) → All (λ k. k <ℤ next) (handles_of_windows vs) → All (λ k. k <ℤ next) (handles_of_windows (filter p vs))
below_kept p next [] h = h
below_kept p next (v ∷ vs) h = by_case (below_kept p next vs (All-tail (λ k. k <ℤ next) v.handle (handles_of_windows vs) h)) (p v)
  where
    by_case : All (λ k. k <ℤ next) (handles_of_windows (filter p vs)) → (b : Bool) → All (λ k. k <ℤ next) (handles_of_windows (cond b (v ∷ filter p vs) (filter p vs)))
    by_case rest true = All-cons (λ k. k <ℤ next) v.handle (handles_of_windows (filter p vs)) (All-head (λ k. k <ℤ next) v.handle (handles_of_windows vs) h) rest
    by_case rest false = rest

tabs_kept : (P : ℤ → Type 0) (n : ℤ) (ts : List Page) → All P (handles_of_tabpages ts) → All P (handles_of_tabpages (other_tabpages n ts))
tabs_kept P n [] h = h
tabs_kept P n (t ∷ ts) h = by_case (tabs_kept P n ts (All-tail P t.handle (handles_of_tabpages ts) h)) (int_eq t.handle n)
  where
    by_case : All P (handles_of_tabpages (other_tabpages n ts)) → (b : Bool) → All P (handles_of_tabpages (cond (not b) (t ∷ other_tabpages n ts) (other_tabpages n ts)))
    by_case rest true = rest
    by_case rest false = All-cons P t.handle (handles_of_tabpages (other_tabpages n ts)) (All-head P t.handle (handles_of_tabpages ts) h) rest

others_some : (ws : Workspace) (n : ℤ) → IsSoundWorkspace ws → has_one_tabpage ws ≡ false → 0 < length (other_tabpages n ws.tabpages)
others_some ws n sound more = two (length ws.tabpages) more (some ws.tabpages (omega (arith, sound.current)))
  where
    some : (ts : List Page) → 0 < times_among ws.tabpage (handles_of_tabpages ts) → 0 < length ts
    some [] h = absurd (omega arith)
    some (t ∷ ts) h = omega arith

    two : (m : ℕ) → (length ws.tabpages == 1) ≡ false → 0 < length ws.tabpages → 0 < length (other_tabpages n ws.tabpages)
    two m e h = let k : 1 < length ws.tabpages = grind (arith, nat_tests) in omega (arith, k, length_others n ws.tabpages, sound.apart n)

pub without_tabpage_sound : (ws : Workspace) (n : ℤ) → has_one_tabpage ws ≡ false → IsSoundWorkspace ws → IsSoundWorkspace (without_tabpage n ws)
without_tabpage_sound ws n more sound = record {
  rising = rising_filter (λ (v : Window). v.handle) (λ (v : Window). not (is_in ws.tabpages n v.handle)) (pos 1000) ws.windows sound.rising;
  below = below_kept (λ (v : Window). not (is_in ws.tabpages n v.handle)) ws.next_window ws.windows sound.below;
  homes = λ k. counted k (is_in ws.tabpages n k) refl (times_without (λ (v : Window). v.handle) (λ j. is_in ws.tabpages n j) k ws.windows);
  pages = All-filter (λ (t : Page). not (int_eq t.handle n)) (IsSoundPage ws.width ws.height) ws.tabpages sound.pages;
  apart = λ k. less k (int_eq k n) (times_without (λ (t : Page). t.handle) (λ j. int_eq j n) k ws.tabpages);
  tabpages = tabs_kept (λ k. (pos 1 ≤ℤ k) × (k <ℤ ws.next_tabpage)) n ws.tabpages sound.tabpages;
  current = now (int_eq ws.tabpage n) refl;
  width = sound.width;
  height = sound.height;
  next_window = sound.next_window;
  next_tabpage = sound.next_tabpage;
}
  where
    others : List Page
    others = other_tabpages n ws.tabpages

    counted : (k : ℤ) (b : Bool) → is_in ws.tabpages n k ≡ b
        → times_among k (handles_of_windows (filter (λ (v : Window). not (is_in ws.tabpages n v.handle)) ws.windows)) ≡ (if is_in ws.tabpages n k then 0 else times_among k (handles_of_windows ws.windows))
        → homes k (other_tabpages n ws.tabpages) ≡ times_among k (handles_of_windows (filter (λ (v : Window). not (is_in ws.tabpages n v.handle)) ws.windows))
    counted k true is e =
        let none : (if is_in ws.tabpages n k then 0 else times_among k (handles_of_windows ws.windows)) ≡ 0 = ap (λ b. if b then 0 else times_among k (handles_of_windows ws.windows)) is in
        omega (arith, e, none, homes_parts n k ws.tabpages, in_some n k ws.tabpages is, home_most ws k sound)
    counted k false is e =
        let all : (if is_in ws.tabpages n k then 0 else times_among k (handles_of_windows ws.windows)) ≡ times_among k (handles_of_windows ws.windows) = ap (λ b. if b then 0 else times_among k (handles_of_windows ws.windows)) is in
        omega (arith, e, all, homes_parts n k ws.tabpages, in_none n k ws.tabpages is, sound.homes k)

    less : (k : ℤ) (b : Bool) → times_among k (handles_of_tabpages (other_tabpages n ws.tabpages)) ≡ (if b then 0 else times_among k (handles_of_tabpages ws.tabpages))
        → times_among k (handles_of_tabpages (other_tabpages n ws.tabpages)) ≤ 1
    less k true e = omega (arith, e)
    less k false e = omega (arith, e, sound.apart k)

    now : (b : Bool) → int_eq ws.tabpage n ≡ b → times_among (current_without n ws) (handles_of_tabpages (other_tabpages n ws.tabpages)) ≡ 1
    now true is =
        let same : current_without n ws ≡ handle_at (place_among n ws.tabpages) (other_tabpages n ws.tabpages) = ap (λ b. if b then handle_at (place_among n ws.tabpages) (other_tabpages n ws.tabpages) else ws.tabpage) is in
        let h = handle_at (place_among n ws.tabpages) (other_tabpages n ws.tabpages) in
        ap (λ k. times_among k (handles_of_tabpages (other_tabpages n ws.tabpages))) same
        ∙ omega (
          arith,
          handle_there (place_among n ws.tabpages) (other_tabpages n ws.tabpages) (others_some ws n sound more),
          less h (int_eq h n) (times_without (λ (t : Page). t.handle) (λ j. int_eq j n) h ws.tabpages),
        )
    now false is =
        let same : current_without n ws ≡ ws.tabpage = ap (λ b. if b then handle_at (place_among n ws.tabpages) (other_tabpages n ws.tabpages) else ws.tabpage) is in
        let kept : times_among ws.tabpage (handles_of_tabpages (other_tabpages n ws.tabpages)) ≡ times_among ws.tabpage (handles_of_tabpages ws.tabpages) =
        times_without (λ (t : Page). t.handle) (λ j. int_eq j n) ws.tabpage ws.tabpages ∙ ap (λ b. if b then 0 else times_among ws.tabpage (handles_of_tabpages ws.tabpages)) is in
        ap (λ k. times_among k (handles_of_tabpages (other_tabpages n ws.tabpages))) same ∙ kept ∙ sound.current

-- ---- another size
fit_pages : (width height : ℕ) (w h : ℕ) (ts : List Page) → list_all (λ (t : Page). fits_screen width height t.tree) ts ≡ true → All (IsSoundPage w h) ts → All (IsSoundPage width height) ts
fit_pages width height w h [] e all = All-nil (IsSoundPage width height)
fit_pages width height w h (t ∷ ts) e all =
    let b = both_true (fits_screen width height t.tree) (list_all (λ (u : Page). fits_screen width height u.tree) ts) e in
    let p = All-head (IsSoundPage w h) t ts all in
    All-cons (IsSoundPage width height) t ts (record { filled = p.filled; roomy = roomy_from width height t.tree b.0; current = p.current })
    (fit_pages width height w h ts b.1 (All-tail (IsSoundPage w h) t ts all))

pub with_size_sound : (ws : Workspace) (width height : ℕ) → width < 2 ^ 16 → height < 2 ^ 16 → all_fit width height ws ≡ true → IsSoundWorkspace ws → IsSoundWorkspace (with_size width height ws)
with_size_sound ws width height wide high fits sound = record {
  rising = sound.rising;
  below = sound.below;
  homes = sound.homes;
  pages = fit_pages width height ws.width ws.height ws.tabpages fits sound.pages;
  apart = sound.apart;
  tabpages = sound.tabpages;
  current = sound.current;
  width = wide;
  height = high;
  next_window = sound.next_window;
  next_tabpage = sound.next_tabpage;
}

-- ---- the first window
pub fresh_sound : (buffer : ℤ) → IsSoundWorkspace (fresh_workspace buffer)
fresh_sound buffer = record {
  rising = (omega (arith, ints), tt);
  below = All-cons (λ k. k <ℤ pos 1001) (pos 1000) [] (omega (arith, ints)) (All-nil (λ k. k <ℤ pos 1001));
  homes = λ n. refl;
  pages = All-cons (IsSoundPage 80 24) (record { handle = pos 1; tree = plain_leaf (pos 1000); current = pos 1000 }) [] (record {
    filled = tt;
    roomy = record { wide = omega arith; high = omega arith };
    current = refl;
  }) (All-nil (IsSoundPage 80 24));
  apart = λ n. most (int_eq (pos 1) n);
  tabpages = All-cons (λ n. (pos 1 ≤ℤ n) × (n <ℤ pos 2)) (pos 1) [] (omega (arith, ints), omega (arith, ints)) (All-nil (λ n. (pos 1 ≤ℤ n) × (n <ℤ pos 2)));
  current = refl;
  width = omega arith;
  height = omega arith;
  next_window = (omega (arith, ints), omega (arith, ints));
  next_tabpage = (omega (arith, ints), omega (arith, ints));
}
  where
    most : (b : Bool) → one_where b + 0 ≤ 1
    most true = omega arith
    most false = omega arith
