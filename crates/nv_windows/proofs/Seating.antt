-- Seats that stay right about windows.
use Rattle.std.proofs.Common.{◌≡◌, ℕ, ℤ, ◌<◌, Bool, true, false, cond, List, [], ◌∷◌, ◌++◌, length, map, ◌&&◌, get_or, Option, Some, None, refl, ap, sym, ◌∙◌, subst, All, arith}
use Rattle.std.specs.Prelude.{find, option_map, option_and_then, IfSome, if◌then◌else◌}
use Rattle.std.specs.List.{list_any}
use Rattle.std.specs.Ordering.{int_eq}
use Rattle.std.proofs.lemmas.List.Elements.{All-push}
use Rattle.nv_layout.specs.Changes.{holds}
use Rattle.nv_layout.specs.Content.{shape_of}
use Rattle.nv_layout.specs.Places.{rects, rect_among, IsOnScreen}
use Rattle.nv_windows.specs.Kept.{page_at}
use Rattle.nv_windows.specs.Operations.{at_window, is_in, page_with}
use Rattle.nv_windows.specs.Pages.{pages_of}
use Rattle.nv_windows.specs.Rooms.{rect_in, text_area, windows_area, without_status}
use Rattle.nv_windows.specs.Sound.{IsSoundWorkspace, IsSoundPage}
use Rattle.nv_windows.specs.Workspace.{Page, Workspace, page_of, tabpage_of}
use Rattle.nv_windows.specs.inside.Seats.{AreSeats, IsPlacedIn, IsSpot}
use Rattle.nv_windows.specs.declared.seats.Seat.{Seat}
use Rattle.nv_windows.specs.declared.seats.Spot.{Spot}
use Rattle.nv_windows.specs.declared.window.Tabpage.{Tabpage}
use Rattle.nv_windows.proofs.Lists.{any-map}
use Rattle.nv_windows.proofs.PartsAt.{none_page, page_is, sound_at}
use Rattle.nv_windows.proofs.Seated.{all_found, home_known}
use Rattle.std.proofs.lemmas.List.{get_or_default, length-map}

if_some : {X : Type 0} (o : Option X) (P Q : X → Type 0) → ((x : X) → P x → Q x) → IfSome o P → IfSome o Q
if_some None P Q f h = tt
if_some (Some x) P Q f h = f x h

-- a seat, by its place
pub seat_tells : (ws : Workspace) (seats : List Seat) (i : ℕ) (s : Seat) (w : ℤ) → AreSeats ws seats → i < length seats → s ≡ get_or seats i s → s.window ≡ w → IfSome s.spot (IsSpot ws w)
seat_tells ws seats i s w all h is named =
    subst (λ v. IfSome s.spot (IsSpot ws v)) named (subst (λ (q : Seat). IfSome q.spot (IsSpot ws q.window)) (sym is) (all i s h))

-- a seat of which nothing is known
pub seats_more : (ws : Workspace) (seats : List Seat) (w : ℤ) → AreSeats ws seats → AreSeats ws (seats ++ record { window = w; spot = None } ∷ [])
seats_more ws seats w all = All-push (λ (s : Seat). IfSome s.spot (IsSpot ws s.window)) seats (record { window = w; spot = None }) all tt

-- the tabpage at a place: what its windows' rectangles want, and that they are found
module _ (ws : Workspace) (ts : List Tabpage) (i : ℕ) (t : Tabpage) (sound : IsSoundWorkspace ws) (same : ws.tabpages ≡ pages_of ts) (h : i < length ts) (is : t ≡ get_or ts i t) where
  within : i < length ws.tabpages
  within = omega (arith, h, ap length same, length-map ts page_of)

  here : page_at ws i ≡ page_of t
  here = page_is ws ts i t same h is

  pub page_sound : IsSoundPage ws.width ws.height (page_of t)
  page_sound = subst (IsSoundPage ws.width ws.height) here (sound_at ws i sound within)

  pub page_placed : All (IsPlacedIn ws t.handle) (rects (shape_of t.tree) (windows_area ws))
  page_placed = all_found ws i (page_of t) sound within (get_or_default ws.tabpages i (page_of t) none_page within ∙ here)

pub area_on_screen : (ws : Workspace) → IsSoundWorkspace ws → IsOnScreen (windows_area ws)
area_on_screen ws sound = record { right = omega (arith, sound.width); bottom = omega (arith, sound.height) }

-- whether a window is in the tabpage of a handle
pub is_in_pages : (ts : List Tabpage) (pages : List Page) (n w : ℤ) → pages ≡ pages_of ts
    → list_any (λ (t : Tabpage). int_eq t.handle n && holds w (shape_of t.tree)) ts ≡ is_in pages n w
is_in_pages ts pages n w same = sym (any-map (λ (p : Page). int_eq p.handle n && holds w p.tree) page_of ts) ∙ sym (ap (λ ps. is_in ps n w) same)

pub is_in_home : (ws : Workspace) (n w : ℤ) (o : Option Spot) (p : Spot) → IsSoundWorkspace ws → o ≡ Some p → IfSome o (IsSpot ws w) → int_eq p.tabpage n ≡ is_in ws.tabpages n w
is_in_home ws n w o p sound is told = sym (home_known ws w n p sound (subst (λ q. IfSome q (IsSpot ws w)) is told))

-- what a spot tells of a window
pub spot_area : (ws : Workspace) (w : ℤ) (o : Option Spot) (p : Spot) → o ≡ Some p → IfSome o (IsSpot ws w) → Some (without_status p.rect) ≡ text_area ws w
spot_area ws w o p is told = sym (ap (option_map without_status) (subst (λ q. IfSome q (IsSpot ws w)) is told).1)

pub spot_home : (ws : Workspace) (w : ℤ) (o : Option Spot) (p : Spot) → o ≡ Some p → IfSome o (IsSpot ws w) → Some p.tabpage ≡ option_map (λ t. t.handle) (tabpage_of ws w)
spot_home ws w o p is told = sym (subst (λ q. IfSome q (IsSpot ws w)) is told).0

-- another current window
abbrev going : ℤ → Page → Page
going w = page_with w (λ t. record t { current = w })

same_tree : (w : ℤ) (t : Page) → (going w t).tree ≡ t.tree
same_tree w t = by_case (holds w t.tree)
  where
    by_case : (b : Bool) → (if b then record t { current = w } else t).tree ≡ t.tree
    by_case true = refl
    by_case false = refl

same_handle : (w : ℤ) (t : Page) → (going w t).handle ≡ t.handle
same_handle w t = by_case (holds w t.tree)
  where
    by_case : (b : Bool) → (if b then record t { current = w } else t).handle ≡ t.handle
    by_case true = refl
    by_case false = refl

same_home : {Y : Type 0} (f : Option Page → Y) (w v : ℤ) → ((t : Page) → f (Some (going w t)) ≡ f (Some t)) → (ts : List Page)
    → f (find (λ (t : Page). holds v t.tree) (map (going w) ts)) ≡ f (find (λ (t : Page). holds v t.tree) ts)
same_home f w v same [] = refl
same_home f w v same (t ∷ ts) =
    ap (λ s. f (cond (holds v s) (Some (going w t)) (find (λ (u : Page). holds v u.tree) (map (going w) ts)))) (same_tree w t) ∙ by_case (same_home f w v same ts) (holds v t.tree)
  where
    by_case : f (find (λ (u : Page). holds v u.tree) (map (going w) ts)) ≡ f (find (λ (u : Page). holds v u.tree) ts) → (b : Bool)
        → f (cond b (Some (going w t)) (find (λ (u : Page). holds v u.tree) (map (going w) ts))) ≡ f (cond b (Some t) (find (λ (u : Page). holds v u.tree) ts))
    by_case rest true = same t
    by_case rest false = rest

spot_stays : (ws : Workspace) (w v : ℤ) (p : Spot) → IsSpot ws v p → IsSpot (at_window w ws) v p
spot_stays ws w v p is = (
  same_home (option_map (λ (t : Page). t.handle)) w v (λ t. ap Some (same_handle w t)) ws.tabpages ∙ is.0,
  same_home (option_and_then (rect_in ws v)) w v (λ t. ap (λ s. rect_among v (rects s (windows_area ws))) (same_tree w t)) ws.tabpages ∙ is.1,
)

pub seats_stay : (ws : Workspace) (w : ℤ) (seats : List Seat) → AreSeats ws seats → AreSeats (at_window w ws) seats
seats_stay ws w seats all = λ k d h. if_some (get_or seats k d).spot (IsSpot ws (get_or seats k d).window) (IsSpot (at_window w ws) (get_or seats k d).window) (λ p is. spot_stays ws w (get_or seats k d).window p is) (all k d h)
