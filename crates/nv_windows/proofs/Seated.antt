-- Where the windows of a tabpage stand.
use Rattle.std.proofs.Common.{◌≡◌, ℕ, zero, suc, ℤ, ◌+◌, ◌<◌, ◌≤◌, Bool, true, false, cond, ◌&&◌, ◌||◌, List, [], ◌∷◌, length, map, get_or, All, Option, Some, None, refl, ap, sym, ◌∙◌, arith}
use Rattle.std.specs.Prelude.{find, option_map, option_and_then, if◌then◌else◌}
use Rattle.std.specs.List.{list_any}
use Rattle.std.specs.Ordering.{int_eq}
use Rattle.std.proofs.lemmas.Int.{ints}
use Rattle.nv_layout.specs.Changes.{holds}
use Rattle.nv_layout.specs.Least.{leaves_of}
use Rattle.nv_layout.specs.Places.{rects, rect_among}
use Rattle.nv_layout.specs.Tiling.{windows}
use Rattle.nv_layout.specs.declared.nodes.Placed.{Placed}
use Rattle.nv_layout.proofs.Naming.{rects_name_windows}
use Rattle.nv_windows.specs.Workspace.{Page, Workspace, handles_of_windows, tabpage_of}
use Rattle.nv_windows.specs.Rooms.{windows_in, windows_area, rect_in}
use Rattle.nv_windows.specs.Sound.{IsSoundWorkspace, times_among}
use Rattle.nv_windows.specs.inside.Seats.{IsPlacedIn, IsSpot}
use Rattle.nv_windows.specs.declared.seats.Spot.{Spot}
use Rattle.nv_windows.proofs.Counting.{once, held_some, held_none, held_by_times}
use Rattle.nv_windows.proofs.Soundness.{found_some, once_self}
use Rattle.nv_windows.proofs.Changed.{homes, homes_more, rising_once}
use Rattle.nv_windows.proofs.Held.{home_once}

-- the one tabpage that holds a window
holding_some : (w : ℤ) (ts : List Page) (i : ℕ) (d : Page) → i < length ts → holds w (get_or ts i d).tree ≡ true → 0 < homes w ts
holding_some w [] i d h is = absurd (omega arith)
holding_some w (t ∷ ts) zero d h is = omega (arith, homes_more w t ts, held_some w t.tree is)
holding_some w (t ∷ ts) (suc i) d h is = omega (arith, homes_more w t ts, holding_some w ts i d (omega arith) is)

pub held_first : (w : ℤ) (ts : List Page) (i : ℕ) (d : Page) → homes w ts ≡ 1 → i < length ts → holds w (get_or ts i d).tree ≡ true → find (λ (t : Page). holds w t.tree) ts ≡ Some (get_or ts i d)
held_first w [] i d e h is = absurd (omega arith)
held_first w (t ∷ ts) zero d e h is = ap (λ b. cond b (Some t) (find (λ (u : Page). holds w u.tree) ts)) is
held_first w (t ∷ ts) (suc i) d e h is = by_case (λ k. held_first w ts i d k (omega arith) is) (holds w t.tree) refl
  where
    by_case : (homes w ts ≡ 1 → find (λ (u : Page). holds w u.tree) ts ≡ Some (get_or ts i d)) → (b : Bool) → holds w t.tree ≡ b
        → cond b (Some t) (find (λ (u : Page). holds w u.tree) ts) ≡ Some (get_or ts i d)
    by_case rest true here = absurd (omega (arith, e, homes_more w t ts, held_some w t.tree here, holding_some w ts i d (omega arith) is))
    by_case rest false here = rest (omega (arith, e, homes_more w t ts, held_none w t.tree here))

-- the windows of one tabpage among those of all
pub in_one : (w : ℤ) (ts : List Page) (i : ℕ) (d : Page) → i < length ts → times_among w (windows_in (get_or ts i d)) ≤ homes w ts
in_one w [] i d h = absurd (omega arith)
in_one w (t ∷ ts) zero d h = omega (arith, homes_more w t ts)
in_one w (t ∷ ts) (suc i) d h = omega (arith, homes_more w t ts, in_one w ts i d (omega arith))

-- the one rectangle of a window
abbrev pub names : List Placed → List ℤ
names = map (λ (p : Placed). p.window)

once_named : (v w : ℤ) → v ≡ w → once w v ≡ 1
once_named v w e = ap (once w) e ∙ once_self w

is_named : (v w : ℤ) → v ≡ w → int_eq v w ≡ true
is_named v w e = grind (arith, ints)

pub named_some : (w : ℤ) (ps : List Placed) (j : ℕ) (d : Placed) → j < length ps → (get_or ps j d).window ≡ w → 0 < times_among w (names ps)
named_some w [] j d h is = absurd (omega arith)
named_some w (p ∷ ps) zero d h is = omega (arith, once_named p.window w is)
named_some w (p ∷ ps) (suc j) d h is = omega (arith, named_some w ps j d (omega arith) is)

pub named_first : (w : ℤ) (ps : List Placed) (j : ℕ) (d : Placed) → times_among w (names ps) ≤ 1 → j < length ps → (get_or ps j d).window ≡ w → find (λ (p : Placed). int_eq p.window w) ps ≡ Some (get_or ps j d)
named_first w [] j d e h is = absurd (omega arith)
named_first w (p ∷ ps) zero d e h is = ap (λ b. cond b (Some p) (find (λ (q : Placed). int_eq q.window w) ps)) (is_named p.window w is)
named_first w (p ∷ ps) (suc j) d e h is = by_case (λ k. named_first w ps j d k (omega arith) is) (int_eq p.window w) refl e
  where
    by_case : (times_among w (names ps) ≤ 1 → find (λ (q : Placed). int_eq q.window w) ps ≡ Some (get_or ps j d)) → (b : Bool) → int_eq p.window w ≡ b
        → (if b then 1 else 0) + times_among w (names ps) ≤ 1
        → cond b (Some p) (find (λ (q : Placed). int_eq q.window w) ps) ≡ Some (get_or ps j d)
    by_case rest true here k = absurd (omega (arith, k, named_some w ps j d (omega arith) is))
    by_case rest false here k = rest (omega (arith, k))

-- where a window stands whose rectangle was found in its tabpage
pub spot_found : (ws : Workspace) (i : ℕ) (t : Page) (ps : List Placed) (j : ℕ) (d : Placed) → IsSoundWorkspace ws → i < length ws.tabpages → get_or ws.tabpages i t ≡ t
    → ps ≡ rects t.tree (windows_area ws) → j < length ps → IsSpot ws (get_or ps j d).window (record { tabpage = t.handle; rect = (get_or ps j d).rect })
spot_found ws i t ps j d sound h here is k =
    let w : ℤ = (get_or ps j d).window in
    let named : names ps ≡ windows (leaves_of t.tree) = ap names is ∙ rects_name_windows t.tree (windows_area ws) in
    let held : holds w t.tree ≡ true = held_by_times w t.tree (omega (arith, named_some w ps j d k refl, ap (times_among w) named)) in
    let held_here : holds w (get_or ws.tabpages i t).tree ≡ true = ap (λ (u : Page). holds w u.tree) here ∙ held in
    let one : homes w ws.tabpages ≡ 1 = home_once ws w ws.tabpages i t sound refl h held_here in
    let home : tabpage_of ws w ≡ Some t = held_first w ws.tabpages i t one h held_here ∙ ap Some here in
    let most : times_among w (names ps) ≤ 1 = omega (arith, ap (times_among w) named, ap (λ (u : Page). times_among w (windows_in u)) here, in_one w ws.tabpages i t h, one) in
    let rect : rect_among w (rects t.tree (windows_area ws)) ≡ Some (get_or ps j d).rect =
    ap (rect_among w) (sym is) ∙ ap (option_map (λ (p : Placed). p.rect)) (named_first w ps j d most k refl) in
    (ap (option_map (λ (u : Page). u.handle)) home, ap (option_and_then (rect_in ws w)) home ∙ rect)

pub all_found : (ws : Workspace) (i : ℕ) (t : Page) → IsSoundWorkspace ws → i < length ws.tabpages → get_or ws.tabpages i t ≡ t → All (IsPlacedIn ws t.handle) (rects t.tree (windows_area ws))
all_found ws i t sound h here = λ j d k. spot_found ws i t (rects t.tree (windows_area ws)) j d sound h here refl k

-- whether a window is in the tabpage of a handle, by the tabpage that it is known to be in
in_none : (w n : ℤ) (ts : List Page) → homes w ts ≡ 0 → list_any (λ (t : Page). int_eq t.handle n && holds w t.tree) ts ≡ false
in_none w n [] e = refl
in_none w n (t ∷ ts) e = by_case (in_none w n ts (omega (arith, homes_more w t ts))) (holds w t.tree) refl (int_eq t.handle n)
  where
    by_case : list_any (λ (u : Page). int_eq u.handle n && holds w u.tree) ts ≡ false → (b : Bool) → holds w t.tree ≡ b → (c : Bool)
        → ((c && b) || list_any (λ (u : Page). int_eq u.handle n && holds w u.tree) ts) ≡ false
    by_case rest true is c = absurd (omega (arith, e, homes_more w t ts, held_some w t.tree is))
    by_case rest false is true = rest
    by_case rest false is false = rest

pub in_home : (w n : ℤ) (ts : List Page) (home : ℤ) → homes w ts ≡ 1 → option_map (λ (t : Page). t.handle) (find (λ (t : Page). holds w t.tree) ts) ≡ Some home
    → list_any (λ (t : Page). int_eq t.handle n && holds w t.tree) ts ≡ int_eq home n
in_home w n [] home e f = absurd (omega arith)
in_home w n (t ∷ ts) home e f = by_case (λ k g. in_home w n ts home k g) (holds w t.tree) refl f
  where
    alone : (b : Bool) → ((b && true) || false) ≡ b
    alone true = refl
    alone false = refl

    nothing : (b c : Bool) → ((b && false) || c) ≡ c
    nothing true c = refl
    nothing false c = refl

    by_case : (homes w ts ≡ 1 → option_map (λ (u : Page). u.handle) (find (λ (u : Page). holds w u.tree) ts) ≡ Some home → list_any (λ (u : Page). int_eq u.handle n && holds w u.tree) ts ≡ int_eq home n)
        → (b : Bool) → holds w t.tree ≡ b → option_map (λ (u : Page). u.handle) (cond b (Some t) (find (λ (u : Page). holds w u.tree) ts)) ≡ Some home
        → ((int_eq t.handle n && b) || list_any (λ (u : Page). int_eq u.handle n && holds w u.tree) ts) ≡ int_eq home n
    by_case rest true is g =
        let none : list_any (λ (u : Page). int_eq u.handle n && holds w u.tree) ts ≡ false = in_none w n ts (omega (arith, e, homes_more w t ts, held_some w t.tree is)) in
        let same : t.handle ≡ home = cc in
        ap (λ b. (int_eq t.handle n && true) || b) none ∙ alone (int_eq t.handle n) ∙ ap (λ m. int_eq m n) same
    by_case rest false is g = nothing (int_eq t.handle n) _ ∙ rest (omega (arith, e, homes_more w t ts, held_none w t.tree is)) g

one_home : (ws : Workspace) (w : ℤ) (s : Spot) (o : Option Page) → IsSoundWorkspace ws → tabpage_of ws w ≡ o → option_map (λ (t : Page). t.handle) o ≡ Some s.tabpage → homes w ws.tabpages ≡ 1
one_home ws w s None sound e f = cc
one_home ws w s (Some t) sound e f = omega (arith, sound.homes w, rising_once _ w (handles_of_windows ws.windows) sound.rising, found_some w ws.tabpages t e)

pub home_known : (ws : Workspace) (w n : ℤ) (s : Spot) → IsSoundWorkspace ws → IsSpot ws w s → list_any (λ (t : Page). int_eq t.handle n && holds w t.tree) ws.tabpages ≡ int_eq s.tabpage n
home_known ws w n s sound is = in_home w n ws.tabpages s.tabpage (one_home ws w s (tabpage_of ws w) sound refl is.0) is.0
