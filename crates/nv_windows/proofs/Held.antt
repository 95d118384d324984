-- The tabpage that holds a window, by its place.
use Rattle.std.proofs.Common.{◌≡◌, ℕ, zero, suc, ℤ, ◌<◌, ◌≤◌, true, false, List, [], ◌∷◌, length, map, get_or, set, Some, refl, ap, sym, arith}
use Rattle.std.specs.Prelude.{position}
use Rattle.std.proofs.lemmas.List.Quantifiers.{position-Some}
use Rattle.nv_layout.specs.Changes.{holds}
use Rattle.nv_windows.specs.Workspace.{Page, Workspace, handles_of_windows}
use Rattle.nv_windows.specs.Operations.{page_with}
use Rattle.nv_windows.specs.Sound.{IsSoundWorkspace}
use Rattle.nv_windows.proofs.Counting.{held_some, held_none}
use Rattle.nv_windows.proofs.Changed.{homes, homes_more, unheld, rising_once}

set_held : (w : ℤ) (f : Page → Page) (ts : List Page) (i : ℕ) (d : Page) → homes w ts ≡ 1 → i < length ts → holds w (get_or ts i d).tree ≡ true
    → ((k : ℕ) → k < i → holds w (get_or ts k d).tree ≡ false) → set ts i (f (get_or ts i d)) ≡ map (page_with w f) ts
set_held w f [] i d e h is before = absurd (omega arith)
set_held w f (t ∷ ts) zero d e h is before =
    let none : homes w ts ≡ 0 = omega (arith, homes_more w t ts, held_some w t.tree is, e) in
    sym (rw is (ap (λ l. f t ∷ l) (unheld w f ts none)))
set_held w f (t ∷ ts) (suc i) d e h is before =
    let fails : holds w t.tree ≡ false = before 0 (omega arith) in
    let more : homes w ts ≡ 1 = omega (arith, homes_more w t ts, held_none w t.tree fails, e) in
    sym (rw fails (ap (λ l. t ∷ l) (sym (set_held w f ts i d more (omega arith) is (λ k lt. before (suc k) (omega arith))))))

pub home_once : (ws : Workspace) (w : ℤ) (ts : List Page) (i : ℕ) (d : Page) → IsSoundWorkspace ws → ts ≡ ws.tabpages → i < length ts → holds w (get_or ts i d).tree ≡ true → homes w ts ≡ 1
home_once ws w ts i d sound e h is =
    let most : homes w ts ≤ 1 = omega (arith, ap (homes w) e, sound.homes w, rising_once _ w (handles_of_windows ws.windows) sound.rising) in
    omega (arith, most, some ts i h is)
  where
    some : (us : List Page) (k : ℕ) → k < length us → holds w (get_or us k d).tree ≡ true → 0 < homes w us
    some [] k lt held = absurd (omega arith)
    some (u ∷ us) zero lt held = omega (arith, homes_more w u us, held_some w u.tree held)
    some (u ∷ us) (suc k) lt held = omega (arith, homes_more w u us, some us k (omega arith) held)

pub changed_home : (ws : Workspace) (w : ℤ) (f : Page → Page) (i : ℕ) (d : Page) → IsSoundWorkspace ws → position (λ (t : Page). holds w t.tree) ws.tabpages ≡ Some i
    → set ws.tabpages i (f (get_or ws.tabpages i d)) ≡ map (page_with w f) ws.tabpages
changed_home ws w f i d sound e =
    let first = position-Some (λ (t : Page). holds w t.tree) ws.tabpages i d e in
    set_held w f ws.tabpages i d (home_once ws w ws.tabpages i d sound refl first.0 first.1) first.0 first.1 first.2
