-- Lists that are changed element by element, in place.
use Rattle.std.proofs.Common.{◌≡◌, ℕ, ℤ, Bool, true, false, cond, append_assoc, add-one, drop-cons, ◌+◌, ◌-◌, ◌<◌, ◌≤◌, List, [], ◌∷◌, ◌++◌, length, map, take, drop, get_or, set, refl, ap, sym, ◌∙◌, append-nil, arith}
use Rattle.std.proofs.lemmas.List.{map-set, get_or-map, get_or-append_right, get_or-drop, length-map, length-take-le, take_all, get_or_default}
use Rattle.std.proofs.lemmas.List.Edits.{map_over_more}
use Rattle.std.proofs.Math.ListN.{drop_of_length-le}
use Rattle.std.specs.Ordering.{int_eq}
use Rattle.std.proofs.Math.Seq.{take-append_seam}
use Rattle.std.specs.Prelude.{if◌then◌else◌}
use Rattle.nv_windows.specs.Operations.{windows_with, tabpages_with, page_with}
use Rattle.nv_windows.specs.Workspace.{Page, handles_of_windows, showing}
use Rattle.nv_windows.specs.declared.window.Window.{Window}

-- the element that a change in place comes to next is as it was
pub next_one : {X : Type 0} (f : X → X) (xs ys : List X) (i : ℕ) (d : X) → i < length xs → ys ≡ map f (take i xs) ++ drop i xs
    → get_or ys i d ≡ get_or xs i d
next_one f xs ys i d within is =
    let len : length (map f (take i xs)) ≡ i = length-map (take i xs) f ∙ length-take-le i xs (omega arith) in
    let here : i - i ≡ 0 = omega arith in
    let there : i + 0 ≡ i = omega arith in
    ap (λ l. get_or l i d) is
    ∙ get_or-append_right (map f (take i xs)) (drop i xs) i i d len (omega arith)
    ∙ ap (λ n. get_or (drop i xs) n d) here
    ∙ get_or-drop i xs 0 d
    ∙ ap (λ n. get_or xs n d) there

pub one_more : {X : Type 0} (f : X → X) (xs ys : List X) (i : ℕ) (d moved : X) → i < length xs → i < length ys
    → ys ≡ map f (take i xs) ++ drop i xs → moved ≡ f (get_or ys i d)
    → set ys i moved ≡ map f (take (i + 1) xs) ++ drop (i + 1) xs
one_more f xs ys i d moved within room is goes =
    ap (set ys i) goes
    ∙ map_over_more f xs ys i (get_or ys i d) within is (get_or_default ys i d (get_or ys i d) room)

pub all_done : {X : Type 0} (f : X → X) (xs ys : List X) (i : ℕ) → length xs ≤ i → ys ≡ map f (take i xs) ++ drop i xs → ys ≡ map f xs
all_done f xs ys i h so_far =
    so_far ∙ ap (λ l. map f l ++ drop i xs) (take_all i xs h) ∙ ap (λ l. map f xs ++ l) (drop_of_length-le xs h) ∙ append-nil (map f xs)

-- and where they are seen by a function
module _ {X Y : Type 0} (v : X → Y) (f : Y → Y) (xs ys : List X) (i : ℕ) where
  pub one_seen : (t u : X) → i < length xs → length ys ≡ length xs → map v ys ≡ map f (take i (map v xs)) ++ drop i (map v xs)
      → t ≡ get_or ys i t → v u ≡ f (v t) → map v (set ys i u) ≡ map f (take (i + 1) (map v xs)) ++ drop (i + 1) (map v xs)
  one_seen t u within same so_far is goes =
      map-set v ys i u ∙ ap (λ s. set (map v ys) i s) goes
      ∙ map_over_more f (map v xs) (map v ys) i (v t) (omega (arith, length-map xs v)) so_far
      (ap v is ∙ sym (get_or-map v ys i t (v t) (omega (arith, same))))

  pub all_seen : length xs ≤ i → map v ys ≡ map f (take i (map v xs)) ++ drop i (map v xs) → map v ys ≡ map f (map v xs)
  all_seen h so_far = all_done f (map v xs) (map v ys) i (omega (arith, length-map xs v)) so_far

-- the handles of the windows that show a buffer, one by one
shown_first : (n : ℤ) (w : Window) (ws : List Window) → handles_of_windows (showing n (w ∷ ws)) ≡ handles_of_windows (showing n (w ∷ [])) ++ handles_of_windows (showing n ws)
shown_first n w ws = by_case (int_eq w.buffer n)
  where
    by_case : (b : Bool) → handles_of_windows (cond b (w ∷ showing n ws) (showing n ws)) ≡ handles_of_windows (cond b (w ∷ []) []) ++ handles_of_windows (showing n ws)
    by_case true = refl
    by_case false = refl

pub shown_more : (n : ℤ) (ws : List Window) (i : ℕ) (w : Window) (before now all : List ℤ) → i < length ws → w ≡ get_or ws i w
    → now ≡ before ++ handles_of_windows (showing n (w ∷ [])) → before ++ handles_of_windows (showing n (drop i ws)) ≡ all
    → now ++ handles_of_windows (showing n (drop (i + 1) ws)) ≡ all
shown_more n ws i w before now all h is now_is e =
    ap (λ l. l ++ handles_of_windows (showing n (drop (i + 1) ws))) now_is
    ∙ append_assoc before (handles_of_windows (showing n (w ∷ []))) (handles_of_windows (showing n (drop (i + 1) ws)))
    ∙ ap (λ l. before ++ l) (sym (shown_first n w (drop (i + 1) ws)))
    ∙ ap (λ l. before ++ handles_of_windows (showing n l)) (ap (λ v. v ∷ drop (i + 1) ws) is ∙ sym (next_is ws i w h))
    ∙ e
  where
    next_is : (xs : List Window) (k : ℕ) (d : Window) → k < length xs → drop k xs ≡ get_or xs k d ∷ drop (k + 1) xs
    next_is xs k d lt = rw (add-one, drop-cons xs k d) refl

pub shown_all : (n : ℤ) (ws : List Window) (i : ℕ) (now all : List ℤ) → length ws ≤ i → now ++ handles_of_windows (showing n (drop i ws)) ≡ all → now ≡ all
shown_all n ws i now all h e =
    sym (append-nil now) ∙ ap (λ l. now ++ handles_of_windows (showing n l)) (sym (drop_of_length-le ws h)) ∙ e

-- a slice written back whole
pub all_put : {X : Type 0} (n : ℕ) (xs items : List X) → length xs ≡ n → take n (xs ++ drop (length xs) items) ≡ xs
all_put n xs items e = ap (λ k. take k (xs ++ drop (length xs) items)) (sym e) ∙ take-append_seam xs (drop (length xs) items)

pub length_with : (n : ℤ) (f : Window → Window) (xs ys : List Window) → ys ≡ windows_with n f xs → length ys ≡ length xs
length_with n f xs ys e = ap length e ∙ length-map xs (λ w. if int_eq w.handle n then f w else w)

pub length_tabs : (n : ℤ) (f : Page → Page) (xs ys : List Page) → ys ≡ tabpages_with n f xs → length ys ≡ length xs
length_tabs n f xs ys e = ap length e ∙ length-map xs (page_with n f)
