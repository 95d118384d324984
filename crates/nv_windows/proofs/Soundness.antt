-- Each operation keeps what windows and tabpages keep to.
use Rattle.std.proofs.Common.{◌≡◌, ℕ, zero, suc, ℤ, ◌+◌, ◌-◌, ◌<◌, ◌≤◌, Bool, true, false, cond, ◌&&◌, List, [], ◌∷◌, ◌++◌, map, All, Option, Some, None, refl, ap, sym, ◌∙◌, subst, arith}
use Rattle.std.specs.Prelude.{pos, ◌+ℤ◌, ◌≤ℤ◌, ◌<ℤ◌, find, if◌then◌else◌, is_some, nat_le, int_le}
use Rattle.std.specs.Option.{option_map_or}
use Rattle.std.specs.Ordering.{int_eq}
use Rattle.std.proofs.lemmas.Bool.Decides.{nat_tests, Decides-int_eq}
use Rattle.std.proofs.lemmas.Int.{ints}
use Rattle.std.proofs.lemmas.List.{map-append}
use Rattle.std.proofs.lemmas.List.Elements.{All-weaker, All-push}
use Rattle.nv_layout.specs.Content.{Shape}
use Rattle.nv_layout.specs.Changes.{holds, split, with_wish}
use Rattle.nv_layout.specs.Least.{least, leaves_of}
use Rattle.nv_layout.specs.Places.{IsRoomy}
use Rattle.nv_layout.specs.Tiling.{windows}
use Rattle.nv_layout.specs.declared.nodes.Axis.{Axis}
use Rattle.nv_layout.specs.declared.nodes.Axis.TheVariants.{Across, Down}
use Rattle.nv_layout.specs.declared.nodes.Side.{Side}
use Rattle.nv_layout.proofs.GroupRules.{changes_keep_form}
use Rattle.nv_layout.proofs.Wishing.{wish_keeps_form}
use Rattle.nv_windows.specs.Workspace.{Page, Workspace, handles_of_windows, tabpage_of, is_live_window, window_on}
use Rattle.nv_windows.specs.Rooms.{windows_in, screen_area, fits_screen, has_room, has_room_beside, next_leaf, has_window_left, last_handle}
use Rattle.nv_windows.specs.Operations.{tree_opened, with_window, at_window, at_tabpage, with_wish_of}
use Rattle.nv_windows.specs.Sound.{IsSoundWorkspace, IsSoundPage, IsRisingFrom, times_among, handles_of_tabpages}
use Rattle.nv_windows.specs.declared.window.Window.{Window}
use Rattle.nv_windows.proofs.Counting.{once, times-append, held_some, held_by_times, split_times}
use Rattle.nv_windows.proofs.Changed.{homes, homes_more, homes_changed, unheld, All-changed, held_there, found_passes, same_handles, rising_push, rising_once}

-- ---- small facts
pub next_below : (n : ℤ) → n <ℤ (n +ℤ pos 1)
next_below n = omega (arith, ints)

pub below_more : (next : ℤ) (ks : List ℤ) → All (λ k. k <ℤ next) ks → All (λ k. k <ℤ (next +ℤ pos 1)) (ks ++ next ∷ [])
below_more next ks h =
    All-push (λ k. k <ℤ (next +ℤ pos 1)) ks next (All-weaker (λ k. k <ℤ next) (λ k. k <ℤ (next +ℤ pos 1)) (λ k lt. omega (arith, ints, lt)) ks h) (next_below next)

pub left_is : (n m : ℤ) → int_le n m ≡ true → n ≤ℤ m
left_is n m e = grind (arith, ints)

le_is : (m n : ℕ) → nat_le m n ≡ true → m ≤ n
le_is m n e = grind (arith, nat_tests)

pub both_true : (a b : Bool) → (a && b) ≡ true → (a ≡ true) × (b ≡ true)
both_true true b e = (refl, e)
both_true false b e = cc

pub roomy_from : (width height : ℕ) (t : Shape) → fits_screen width height t ≡ true → IsRoomy t (screen_area width height)
roomy_from width height t e =
    let b = both_true (nat_le (least Across t) width) (nat_le (least Down t) (height - 1)) e in
    record { wide = le_is (least Across t) width b.0; high = le_is (least Down t) (height - 1) b.1 }

pub once_self : (n : ℤ) → once n n ≡ 1
once_self n = let same : int_eq n n ≡ true = (Decides-int_eq n n).1 refl in ap one_where same
  where
    one_where : Bool → ℕ
    one_where b = if b then 1 else 0

pub push_times : (n : ℤ) (ks : List ℤ) (k : ℤ) → times_among n (ks ++ k ∷ []) ≡ times_among n ks + once n k
push_times n ks k = omega (arith, times-append n ks (k ∷ []))

live_times : (n : ℤ) (ws : List Window) → is_some (find (λ (w : Window). int_eq w.handle n) ws) ≡ true → 0 < times_among n (handles_of_windows ws)
live_times n [] e = cc
live_times n (w ∷ ws) e = by_case (live_times n ws) (int_eq w.handle n) e
  where
    by_case : (is_some (find (λ (v : Window). int_eq v.handle n) ws) ≡ true → 0 < times_among n (handles_of_windows ws)) → (b : Bool)
        → is_some (cond b (Some w) (find (λ (v : Window). int_eq v.handle n) ws)) ≡ true → 0 < (if b then 1 else 0) + times_among n (handles_of_windows ws)
    by_case rest true e = omega arith
    by_case rest false e = omega (arith, rest e)

pub live_tab_times : (n : ℤ) (ts : List Page) → is_some (find (λ (t : Page). int_eq t.handle n) ts) ≡ true → 0 < times_among n (handles_of_tabpages ts)
live_tab_times n [] e = cc
live_tab_times n (t ∷ ts) e = by_case (live_tab_times n ts) (int_eq t.handle n) e
  where
    by_case : (is_some (find (λ (u : Page). int_eq u.handle n) ts) ≡ true → 0 < times_among n (handles_of_tabpages ts)) → (b : Bool)
        → is_some (cond b (Some t) (find (λ (u : Page). int_eq u.handle n) ts)) ≡ true → 0 < (if b then 1 else 0) + times_among n (handles_of_tabpages ts)
    by_case rest true e = omega arith
    by_case rest false e = omega (arith, rest e)

pub home_most : (ws : Workspace) (n : ℤ) → IsSoundWorkspace ws → homes n ws.tabpages ≤ 1
home_most ws n sound = omega (arith, sound.homes n, rising_once (pos 1000) n (handles_of_windows ws.windows) sound.rising)

pub live_home : (ws : Workspace) (n : ℤ) → IsSoundWorkspace ws → is_live_window ws n ≡ true → homes n ws.tabpages ≡ 1
live_home ws n sound e = omega (arith, home_most ws n sound, sound.homes n, live_times n ws.windows e)

-- the tabpage that was found holds the window
found_holds : (w : ℤ) (ts : List Page) (t : Page) → find (λ u. holds w u.tree) ts ≡ Some t → holds w t.tree ≡ true
found_holds w ts t e = (found_passes (λ (u : Page). holds w u.tree) (λ u. Unit {0}) ts t e (λ k d h. tt)).1

pub found_some : (w : ℤ) (ts : List Page) (t : Page) → find (λ u. holds w u.tree) ts ≡ Some t → 0 < homes w ts
found_some w [] t e = cc
found_some w (u ∷ ts) t e = by_case (found_some w ts t) (holds w u.tree) refl e
  where
    by_case : (find (λ v. holds w v.tree) ts ≡ Some t → 0 < homes w ts) → (b : Bool) → holds w u.tree ≡ b → cond b (Some u) (find (λ v. holds w v.tree) ts) ≡ Some t → 0 < homes w (u ∷ ts)
    by_case rest true is e = omega (arith, homes_more w u ts, held_some w u.tree is)
    by_case rest false is e = omega (arith, homes_more w u ts, rest e)

-- ---- operations on the windows' views alone
pub same_windows_sound : (ws : Workspace) (vs : List Window) → handles_of_windows vs ≡ handles_of_windows ws.windows → IsSoundWorkspace ws → IsSoundWorkspace (record ws { windows = vs })
same_windows_sound ws vs e sound = record {
  rising = subst (IsRisingFrom (pos 1000)) (sym e) sound.rising;
  below = subst (All (λ k. k <ℤ ws.next_window)) (sym e) sound.below;
  homes = λ n. sound.homes n ∙ ap (times_among n) (sym e);
  pages = sound.pages;
  apart = sound.apart;
  tabpages = sound.tabpages;
  current = sound.current;
  width = sound.width;
  height = sound.height;
  next_window = sound.next_window;
  next_tabpage = sound.next_tabpage;
}

-- ---- operations on the one tabpage that holds a window, which keep its windows
changed_sound : (ws : Workspace) (w : ℤ) (f : Page → Page) → homes w ws.tabpages ≡ 1 → ((t : Page) → (f t).handle ≡ t.handle)
    → ((n : ℤ) (t : Page) → times_among n (windows_in (f t)) ≡ times_among n (windows_in t))
    → ((t : Page) → IsSoundPage ws.width ws.height t → holds w t.tree ≡ true → IsSoundPage ws.width ws.height (f t))
    → IsSoundWorkspace ws → IsSoundWorkspace (record ws { tabpages = map (λ t. if holds w t.tree then f t else t) ws.tabpages })
changed_sound ws w f home keeps same good sound =
    let handles = same_handles w f keeps ws.tabpages in
    record {
      rising = sound.rising;
      below = sound.below;
      homes = λ n. omega (arith, homes_changed w n f ws.tabpages 0 0 home (λ t h. omega (arith, same n t)), sound.homes n);
      pages = All-changed (IsSoundPage ws.width ws.height) w f ws.tabpages (λ t p found h. good t p h) home sound.pages;
      apart = λ n. subst (λ ks. times_among n ks ≤ 1) (sym handles) (sound.apart n);
      tabpages = subst (All (λ n. (pos 1 ≤ℤ n) × (n <ℤ ws.next_tabpage))) (sym handles) sound.tabpages;
      current = ap (times_among ws.tabpage) handles ∙ sound.current;
      width = sound.width;
      height = sound.height;
      next_window = sound.next_window;
      next_tabpage = sound.next_tabpage;
    }

-- a tabpage of a handle that is there becomes current
pub at_tabpage_sound : (ws : Workspace) (n : ℤ) → 0 < times_among n (handles_of_tabpages ws.tabpages) → IsSoundWorkspace ws → IsSoundWorkspace (at_tabpage n ws)
at_tabpage_sound ws n there sound = record {
  rising = sound.rising;
  below = sound.below;
  homes = sound.homes;
  pages = sound.pages;
  apart = sound.apart;
  tabpages = sound.tabpages;
  current = omega (arith, there, sound.apart n);
  width = sound.width;
  height = sound.height;
  next_window = sound.next_window;
  next_tabpage = sound.next_tabpage;
}

found_handle : (w : ℤ) (ts : List Page) (t : Page) → find (λ u. holds w u.tree) ts ≡ Some t → 0 < times_among t.handle (handles_of_tabpages ts)
found_handle w [] t e = cc
found_handle w (u ∷ ts) t e = by_case (found_handle w ts t) (holds w u.tree) e
  where
    by_case : (find (λ v. holds w v.tree) ts ≡ Some t → 0 < times_among t.handle (handles_of_tabpages ts)) → (b : Bool) → cond b (Some u) (find (λ v. holds w v.tree) ts) ≡ Some t → 0 < times_among t.handle (handles_of_tabpages (u ∷ ts))
    by_case rest true e = let same : u ≡ t = cc in subst (λ (v : Page). 0 < times_among v.handle (handles_of_tabpages (u ∷ ts))) same (omega (arith, once_self u.handle))
    by_case rest false e = omega (arith, rest e)

pub at_window_sound : (ws : Workspace) (w : ℤ) → homes w ws.tabpages ≡ 1 → IsSoundWorkspace ws → IsSoundWorkspace (at_window w ws)
at_window_sound ws w home sound =
    let f : Page → Page = λ t. record t { current = w } in
    let there = held_there w ws.tabpages (omega (arith, home)) in
    let now = changed_sound ws w f home (λ t. refl) (λ n t. refl) (λ t p h. record { filled = p.filled; roomy = p.roomy; current = h }) sound in
    let kept = same_handles w f (λ t. refl) ws.tabpages in
    let handle : option_map_or (λ (t : Page). t.handle) (tabpage_of ws w) ws.tabpage ≡ there.0.handle = ap (λ o. option_map_or (λ (t : Page). t.handle) o ws.tabpage) there.1 in
    at_tabpage_sound (record ws { tabpages = map (λ t. if holds w t.tree then f t else t) ws.tabpages }) (option_map_or (λ (t : Page). t.handle) (tabpage_of ws w) ws.tabpage)
    (subst (λ k. 0 < times_among k (handles_of_tabpages (map (λ t. if holds w t.tree then f t else t) ws.tabpages))) (sym handle)
    (subst (λ ks. 0 < times_among there.0.handle ks) (sym kept) (found_handle w ws.tabpages there.0 there.1))) now

-- ---- wishes
wish_times : (axis : Axis) (n : ℕ) (w k : ℤ) (t : Shape) → times_among k (windows (leaves_of (with_wish axis n w t))) ≡ times_among k (windows (leaves_of t))
wish_times axis n w k t = ap (times_among k) (wish_keeps_form.windows axis n w t)

wish_page : (width height : ℕ) (axis : Axis) (n : ℕ) (w : ℤ) (t : Page) → IsSoundPage width height t → IsSoundPage width height (record t { tree = with_wish axis n w t.tree })
wish_page width height axis n w t p = record {
  filled = wish_keeps_form.none_empty axis n w t.tree p.filled;
  roomy = record {
    wide = subst (λ m. m ≤ width) (sym (wish_keeps_form.least axis Across n w t.tree)) p.roomy.wide;
    high = subst (λ m. m ≤ height - 1) (sym (wish_keeps_form.least axis Down n w t.tree)) p.roomy.high;
  };
  current = held_by_times t.current (with_wish axis n w t.tree) (omega (arith, wish_times axis n w t.current t.tree, held_some t.current t.tree p.current));
}

unheld_same : (w : ℤ) (f : Page → Page) (ts : List Page) → homes w ts ≡ 0 → map (λ t. if holds w t.tree then f t else t) ts ≡ ts
unheld_same w f ts e = unheld w f ts e

pub wish_sound : (ws : Workspace) (w : ℤ) (axis : Axis) (n : ℕ) → IsSoundWorkspace ws → IsSoundWorkspace (with_wish_of w axis n ws)
wish_sound ws w axis n sound = by_count (homes w ws.tabpages) refl (home_most ws w sound)
  where
    f : Page → Page
    f t = record t { tree = with_wish axis n w t.tree }

    by_count : (k : ℕ) → homes w ws.tabpages ≡ k → homes w ws.tabpages ≤ 1 → IsSoundWorkspace (with_wish_of w axis n ws)
    by_count zero e h = subst (λ ts. IsSoundWorkspace (record ws { tabpages = ts })) (sym (unheld_same w f ws.tabpages e)) sound
    by_count (suc k) e h = changed_sound ws w f (omega (arith, e, h)) (λ t. refl) (λ m t. wish_times axis n w m t.tree) (λ t p held. wish_page ws.width ws.height axis n w t p) sound

-- ---- a window opened
opened_page : (ws : Workspace) (beside : ℤ) (side : Side) (width height : ℕ) (t : Page) → IsSoundPage ws.width ws.height t → holds beside t.tree ≡ true
    → has_room ws (split side beside (next_leaf ws) t.tree) ≡ true → IsSoundPage ws.width ws.height (record t { tree = tree_opened ws beside side width height t.tree })
opened_page ws beside side width height t p held room =
    wish_page ws.width ws.height Down height ws.next_window (record t { tree = with_wish Across width ws.next_window (split side beside (next_leaf ws) t.tree) })
    (wish_page ws.width ws.height Across width ws.next_window (record t { tree = split side beside (next_leaf ws) t.tree }) (record {
      filled = changes_keep_form.split_none_empty side beside (next_leaf ws) t.tree p.filled;
      roomy = roomy_from ws.width ws.height (split side beside (next_leaf ws) t.tree) room;
      current = held_by_times t.current (split side beside (next_leaf ws) t.tree) (omega (arith, split_times side beside t.current (next_leaf ws) t.tree held, held_some t.current t.tree p.current));
    }))

opened_times : (ws : Workspace) (beside n : ℤ) (side : Side) (width height : ℕ) (t : Shape) → holds beside t ≡ true
    → times_among n (windows (leaves_of (tree_opened ws beside side width height t))) ≡ times_among n (windows (leaves_of t)) + once n ws.next_window
opened_times ws beside n side width height t held =
    wish_times Down height ws.next_window n (with_wish Across width ws.next_window (split side beside (next_leaf ws) t))
    ∙ wish_times Across width ws.next_window n (split side beside (next_leaf ws) t) ∙ split_times side beside n (next_leaf ws) t held

room_found : (ws : Workspace) (beside : ℤ) (side : Side) (o : Option Page) → option_map_or (λ t. has_room ws (split side beside (next_leaf ws) t.tree)) o false ≡ true
    → (t : Page) × (o ≡ Some t) × (has_room ws (split side beside (next_leaf ws) t.tree) ≡ true)
room_found ws beside side None e = cc
room_found ws beside side (Some t) e = (t, refl, e)

pub with_window_sound : (ws : Workspace) (beside : ℤ) (side : Side) (buffer : ℤ) (width height : ℕ) → has_window_left ws ≡ true → has_room_beside ws beside side ≡ true
    → IsSoundWorkspace ws → IsSoundWorkspace (with_window beside side buffer width height ws)
with_window_sound ws beside side buffer width height left room sound =
    let there = room_found ws beside side (tabpage_of ws beside) room in
    let home : homes beside ws.tabpages ≡ 1 = omega (arith, home_most ws beside sound, found_some beside ws.tabpages there.0 there.1) in
    let f : Page → Page = λ t. record t { tree = tree_opened ws beside side width height t.tree } in
    let handles = same_handles beside f (λ t. refl) ws.tabpages in
    let names : handles_of_windows (ws.windows ++ window_on ws.next_window buffer ∷ []) ≡ handles_of_windows ws.windows ++ ws.next_window ∷ [] = map-append (λ (w : Window). w.handle) ws.windows (window_on ws.next_window buffer ∷ []) in
    record {
      rising = subst (IsRisingFrom (pos 1000)) (sym names) (rising_push (pos 1000) (handles_of_windows ws.windows) ws.next_window sound.rising sound.next_window.0 sound.below);
      below = subst (All (λ k. k <ℤ (ws.next_window +ℤ pos 1))) (sym names) (below_more ws.next_window (handles_of_windows ws.windows) sound.below);
      homes = λ n. omega (arith, homes_changed beside n f ws.tabpages (once n ws.next_window) 0 home (λ t h. omega (arith, opened_times ws beside n side width height t.tree h)), sound.homes n, ap (times_among n) names, push_times n (handles_of_windows ws.windows) ws.next_window);
      pages = All-changed (IsSoundPage ws.width ws.height) beside f ws.tabpages
          (λ t p found h. opened_page ws beside side width height t p h (subst (λ (u : Page). has_room ws (split side beside (next_leaf ws) u.tree) ≡ true) (same_some there.0 t (sym there.1 ∙ found)) there.2))
          home sound.pages;
      apart = λ n. subst (λ ks. times_among n ks ≤ 1) (sym handles) (sound.apart n);
      tabpages = subst (All (λ n. (pos 1 ≤ℤ n) × (n <ℤ ws.next_tabpage))) (sym handles) sound.tabpages;
      current = ap (times_among ws.tabpage) handles ∙ sound.current;
      width = sound.width;
      height = sound.height;
      next_window = (omega (arith, ints, sound.next_window.0), omega (arith, ints, left_is ws.next_window last_handle left));
      next_tabpage = sound.next_tabpage;
    }
  where
    same_some : (t u : Page) → Some t ≡ Some u → t ≡ u
    same_some t u e = cc
