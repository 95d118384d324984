-- The windows of the current tabpage are live, and stand in no other one.
use Rattle.std.proofs.Common.{◌≡◌, ℤ, ◌+◌, ◌<◌, ◌≤◌, Bool, true, false, cond, List, [], ◌∷◌, map, All, Option, Some, None, refl, ap, sym, subst, ◌∙◌, arith}
use Rattle.std.specs.Prelude.{pos, find, is_some, if◌then◌else◌}
use Rattle.std.specs.Option.{option_map_or}
use Rattle.std.specs.Ordering.{int_eq}
use Rattle.std.proofs.lemmas.List.Elements.{All-nil, All-cons}
use Rattle.nv_layout.specs.Changes.{holds}
use Rattle.nv_layout.specs.Places.{rects}
use Rattle.nv_layout.specs.declared.nodes.Placed.{Placed}
use Rattle.nv_layout.specs.declared.nodes.Rect.{Rect}
use Rattle.nv_layout.proofs.Naming.{rects_name_windows}
use Rattle.nv_windows.specs.Rooms.{windows_in}
use Rattle.nv_windows.specs.Sound.{IsSoundPage, IsSoundWorkspace, handles_of_tabpages, times_among}
use Rattle.nv_windows.specs.Workspace.{Page, Workspace, current_window, handles_of_windows, is_live_window, tabpage_at, tabpage_of, window_at}
use Rattle.nv_windows.specs.declared.window.Window.{Window}
use Rattle.nv_windows.proofs.Changed.{homes, homes_more}
use Rattle.nv_windows.proofs.Counting.{held_some}
use Rattle.nv_windows.proofs.Soundness.{home_most, once_self}
use Rattle.nv_scene.proofs.Areas.{all_found}

-- a tabpage among others
pub page_homes : (n h : ℤ) (ts : List Page) (page : Page) → find (λ (t : Page). int_eq t.handle h) ts ≡ Some page → times_among n (windows_in page) ≤ homes n ts
page_homes n h [] page e = cc
page_homes n h (t ∷ ts) page e = by (page_homes n h ts page) (int_eq t.handle h) e
  where
    by : (find (λ (u : Page). int_eq u.handle h) ts ≡ Some page → times_among n (windows_in page) ≤ homes n ts) → (b : Bool)
        → cond b (Some t) (find (λ (u : Page). int_eq u.handle h) ts) ≡ Some page → times_among n (windows_in page) ≤ homes n (t ∷ ts)
    by rest true f =
        let same : t ≡ page = cc in
        omega (arith, homes_more n t ts, ap (λ (u : Page). times_among n (windows_in u)) same)
    by rest false f = omega (arith, homes_more n t ts, rest f)

-- the tabpage that has a window is the one of a handle, where that has it
page_of_window : (w h : ℤ) (ts : List Page) (page : Page) → find (λ (t : Page). int_eq t.handle h) ts ≡ Some page → holds w page.tree ≡ true → homes w ts ≤ 1
    → find (λ (t : Page). holds w t.tree) ts ≡ Some page
page_of_window w h [] page e held most = cc
page_of_window w h (t ∷ ts) page e held most = by (λ f m. page_of_window w h ts page f held m) (int_eq t.handle h) e
  where
    here : t ≡ page → (b : Bool) → holds w t.tree ≡ b → cond b (Some t) (find (λ (u : Page). holds w u.tree) ts) ≡ Some page
    here same true is = ap (λ (u : Page). Some u) same
    here same false is = let both : true ≡ false = sym held ∙ ap (λ (u : Page). holds w u.tree) (sym same) ∙ is in cc

    other : (homes w ts ≤ 1 → find (λ (u : Page). holds w u.tree) ts ≡ Some page) → find (λ (u : Page). int_eq u.handle h) ts ≡ Some page
        → (b : Bool) → holds w t.tree ≡ b → cond b (Some t) (find (λ (u : Page). holds w u.tree) ts) ≡ Some page
    other rest f true is = absurd (omega (arith, most, homes_more w t ts, held_some w t.tree is, held_some w page.tree held, page_homes w h ts page f))
    other rest f false is = rest (omega (arith, most, homes_more w t ts))

    by : (find (λ (u : Page). int_eq u.handle h) ts ≡ Some page → homes w ts ≤ 1 → find (λ (u : Page). holds w u.tree) ts ≡ Some page) → (b : Bool)
        → cond b (Some t) (find (λ (u : Page). int_eq u.handle h) ts) ≡ Some page → find (λ (u : Page). holds w u.tree) (t ∷ ts) ≡ Some page
    by rest true f = let same : t ≡ page = cc in here same (holds w t.tree) refl
    by rest false f = other (rest f) f (holds w t.tree) refl

live_by_times : (n : ℤ) (ws : List Window) → 0 < times_among n (handles_of_windows ws) → is_some (find (λ (w : Window). int_eq w.handle n) ws) ≡ true
live_by_times n [] h = absurd (omega (arith, h))
live_by_times n (w ∷ ws) h = by (live_by_times n ws) (int_eq w.handle n) h
  where
    by : (0 < times_among n (handles_of_windows ws) → is_some (find (λ (v : Window). int_eq v.handle n) ws) ≡ true) → (b : Bool)
        → 0 < (if b then 1 else 0) + times_among n (handles_of_windows ws) → is_some (cond b (Some w) (find (λ (v : Window). int_eq v.handle n) ws)) ≡ true
    by rest true k = refl
    by rest false k = rest (omega (arith, k))

no_times : (n : ℤ) (ts : List Page) → find (λ (t : Page). int_eq t.handle n) ts ≡ None → times_among n (handles_of_tabpages ts) ≡ 0
no_times n [] e = refl
no_times n (t ∷ ts) e = by (no_times n ts) (int_eq t.handle n) e
  where
    by : (find (λ (u : Page). int_eq u.handle n) ts ≡ None → times_among n (handles_of_tabpages ts) ≡ 0) → (b : Bool)
        → cond b (Some t) (find (λ (u : Page). int_eq u.handle n) ts) ≡ None → (if b then 1 else 0) + times_among n (handles_of_tabpages ts) ≡ 0
    by rest true f = cc
    by rest false f = omega (arith, rest f)

-- ---- the current tabpage
pub page_there : (ws : Workspace) → IsSoundWorkspace ws → tabpage_at ws ws.tabpage ≡ None → ⊥
page_there ws sound e = absurd (omega (arith, sound.current, no_times ws.tabpage ws.tabpages e))

module _ (ws : Workspace) (page : Page) (sound : IsSoundWorkspace ws) (e : tabpage_at ws ws.tabpage ≡ Some page) where
  pub page_sound : IsSoundPage ws.width ws.height page
  page_sound = all_found (IsSoundPage ws.width ws.height) (λ (t : Page). int_eq t.handle ws.tabpage) ws.tabpages page sound.pages e

  pub page_once : (n : ℤ) → times_among n (windows_in page) ≤ 1
  page_once n = omega (arith, page_homes n ws.tabpage ws.tabpages page e, home_most ws n sound)

  pub page_live : (n : ℤ) → 0 < times_among n (windows_in page) → is_live_window ws n ≡ true
  page_live n h = live_by_times n ws.windows (omega (arith, h, page_homes n ws.tabpage ws.tabpages page e, sound.homes n))

  pub current_is : current_window ws ≡ page.current
  current_is = ap (λ (o : Option Page). option_map_or (λ t. t.current) o (pos 0)) e

  pub current_home : tabpage_of ws page.current ≡ Some page
  current_home = page_of_window page.current ws.tabpage ws.tabpages page e page_sound.current (home_most ws page.current sound)

  pub tree_live : (area : Rect) → All (λ (p : Placed). is_live_window ws p.window ≡ true) (rects page.tree area)
  tree_live area =
      all_named (rects page.tree area)
      (λ n h. page_live n (subst (λ (ks : List ℤ). 0 < times_among n ks) (rects_name_windows page.tree area) h))
    where
      all_named : (ps : List Placed) → ((n : ℤ) → 0 < times_among n (map (λ (p : Placed). p.window) ps) → is_live_window ws n ≡ true)
          → All (λ (p : Placed). is_live_window ws p.window ≡ true) ps
      all_named [] f = All-nil _
      all_named (p ∷ ps) f =
          All-cons (λ (q : Placed). is_live_window ws q.window ≡ true) p ps (f p.window (omega (arith, once_self p.window)))
          (all_named ps (λ n h. f n (omega (arith, h))))

pub current_there : (ws : Workspace) → IsSoundWorkspace ws → window_at ws (current_window ws) ≡ None → ⊥
current_there ws sound e = by_page (tabpage_at ws ws.tabpage) refl
  where
    by_page : (o : Option Page) → tabpage_at ws ws.tabpage ≡ o → ⊥
    by_page None is = page_there ws sound is
    by_page (Some page) is =
        let live : is_live_window ws page.current ≡ true =
        page_live ws page sound is page.current (held_some page.current page.tree (page_sound ws page sound is).current) in
        let both : false ≡ true =
        ap (λ (o : Option Window). is_some o) (sym e) ∙ ap (is_live_window ws) (current_is ws page sound is) ∙ live in cc
