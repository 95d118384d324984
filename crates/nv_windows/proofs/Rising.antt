-- Windows by rising handles.
use Rattle.std.proofs.Common.{◌≡◌, ℕ, zero, suc, ℤ, ◌+◌, ◌<◌, ◌≤◌, Bool, true, false, cond, List, [], ◌∷◌, length, map, get_or, set, drop, Some, None, refl, sym, subst, arith}
use Rattle.std.specs.Prelude.{pos, ◌+ℤ◌, ◌≤ℤ◌, ◌<ℤ◌, int_lt, nat_lt, find, position, if◌then◌else◌}
use Rattle.std.specs.Ordering.{int_eq}
use Rattle.std.specs.List.{position_or_len}
use Rattle.std.specs.List.Sorted.{IsPartitionedBy, IsPartitionPoint}
use Rattle.std.proofs.lemmas.Bool.{cases_order}
use Rattle.std.proofs.lemmas.Bool.Decides.{nat_tests}
use Rattle.std.proofs.lemmas.Int.{ints}
use Rattle.std.proofs.lemmas.List.{get_or-drop, length-drop}
use Rattle.std.proofs.lemmas.List.Sums.{position_or_len_is}
use Rattle.std.proofs.lemmas.List.Quantifiers.{position-Some}
use Rattle.std.proofs.Common.{◌⊎◌, inl, inr}
use Rattle.nv_windows.specs.Sound.{IsRisingFrom}
use Rattle.nv_windows.specs.Workspace.{handles_of_windows}
use Rattle.nv_windows.specs.declared.window.Window.{Window}
use Rattle.nv_windows.proofs.Lists.{map_at}

abbrev pub has_handle : ℤ → Window → Bool
has_handle n w = int_eq w.handle n

pub above : (b : ℤ) (ws : List Window) (k : ℕ) (d : Window) → IsRisingFrom b (handles_of_windows ws) → k < length ws → b ≤ℤ (get_or ws k d).handle
above b [] k d r h = absurd (omega arith)
above b (w ∷ ws) zero d r h = r.0
above b (w ∷ ws) (suc k) d r h = omega (arith, ints, above (w.handle +ℤ pos 1) ws k d r.1 (omega arith), r.0)

pub rising : (b : ℤ) (ws : List Window) (j k : ℕ) (d : Window) → IsRisingFrom b (handles_of_windows ws) → j < k → k < length ws
    → (get_or ws j d).handle <ℤ (get_or ws k d).handle
rising b [] j k d r h i = absurd (omega arith)
rising b (w ∷ ws) j zero d r h i = absurd (omega arith)
rising b (w ∷ ws) zero (suc k) d r h i = omega (arith, ints, above (w.handle +ℤ pos 1) ws k d r.1 (omega arith))
rising b (w ∷ ws) (suc j) (suc k) d r h i = rising (w.handle +ℤ pos 1) ws j k d r.1 (omega arith) (omega arith)

less_true : (a b n : ℤ) → a <ℤ b → int_lt b n ≡ true → int_lt a n ≡ true
less_true a b n h e = grind (arith, ints)

-- the windows of handles below one come first
pub parted : (b : ℤ) (ws : List Window) (n : ℤ) → IsRisingFrom b (handles_of_windows ws) → IsPartitionedBy (λ w. int_lt w.handle n) ws
parted b ws n r i j d h within e = by_order (cases_order i j)
  where
    by_order : (i ≡ j) ⊎ ((i < j) ⊎ (j < i)) → int_lt (get_or ws i d).handle n ≡ true
    by_order (inl same) = subst (λ k. int_lt (get_or ws k d).handle n ≡ true) (sym same) e
    by_order (inr (inl before)) = less_true (get_or ws i d).handle (get_or ws j d).handle n (rising b ws i j d r before within) e
    by_order (inr (inr past)) = absurd (omega arith)

differs_below : (a n : ℤ) → int_lt a n ≡ true → int_eq a n ≡ false
differs_below a n e = grind (arith, ints)

differs_above : (a b n : ℤ) → a <ℤ b → int_lt a n ≡ false → int_eq b n ≡ false
differs_above a b n h e = grind (arith, ints)

-- where a search by halves ends
module _ (b : ℤ) (ws : List Window) (n : ℤ) (i : ℕ) (r : IsRisingFrom b (handles_of_windows ws)) (within : i ≤ length ws)
    (at : IsPartitionPoint (λ (w : Window). int_lt w.handle n ≡ true) (λ (w : Window). int_lt w.handle n ≡ false) ws i) where
  before : (k : ℕ) (d : Window) → k < i → int_eq (get_or ws k d).handle n ≡ false
  before k d h = differs_below (get_or ws k d).handle n (at.0 k d (omega arith) h)

  pub found_there : (d : Window) → i < length ws → int_eq (get_or ws i d).handle n ≡ true → Some i ≡ position (has_handle n) ws
  found_there d h e =
      let is : position_or_len (has_handle n) ws ≡ i = position_or_len_is (has_handle n) ws i d within (λ k lt. before k d lt) (λ lt. e) in
      sym (rw is (by_test (nat_lt_true i (length ws) h)))
    where
      nat_lt_true : (j m : ℕ) → j < m → nat_lt j m ≡ true
      nat_lt_true j m h = grind (arith, nat_tests)

      by_test : nat_lt i (length ws) ≡ true → cond (nat_lt i (length ws)) (Some i) None ≡ Some i
      by_test e = rw e refl

  none_equal : (d : Window) → (i < length ws → int_eq (get_or ws i d).handle n ≡ false) → (k : ℕ) → k < length ws → int_eq (get_or ws k d).handle n ≡ false
  none_equal d e k h = by_order (cases_order k i)
    where
      by_order : (k ≡ i) ⊎ ((k < i) ⊎ (i < k)) → int_eq (get_or ws k d).handle n ≡ false
      by_order (inl same) = subst (λ j. int_eq (get_or ws j d).handle n ≡ false) (sym same) (e (omega arith))
      by_order (inr (inl less)) = before k d less
      by_order (inr (inr more)) =
          differs_above (get_or ws i d).handle (get_or ws k d).handle n (rising b ws i k d r more h) (at.1 i d (omega arith) (omega arith))

  pub found_nowhere : (d : Window) → (i < length ws → int_eq (get_or ws i d).handle n ≡ false) → None ≡ position (has_handle n) ws
  found_nowhere d e =
      let is : position_or_len (has_handle n) ws ≡ length ws =
      position_or_len_is (has_handle n) ws (length ws) d (omega arith) (none_equal d e) (λ lt. absurd (omega arith)) in
      sym (rw is (by_test (nat_lt_false (length ws))))
    where
      nat_lt_false : (m : ℕ) → nat_lt m m ≡ false
      nat_lt_false m = grind (arith, nat_tests)

      by_test : nat_lt (length ws) (length ws) ≡ false → cond (nat_lt (length ws) (length ws)) (Some (length ws)) None ≡ None
      by_test e = rw e refl

-- none of some windows is found
pub find_none : {X : Type 0} (p : X → Bool) (xs : List X) → ((k : ℕ) (d : X) → k < length xs → p (get_or xs k d) ≡ false) → find p xs ≡ None
find_none p [] h = refl
find_none p (x ∷ xs) h =
    let fails : p x ≡ false = h 0 x (omega arith) in
    rw fails (find_none p xs (λ k d lt. h (suc k) d (omega arith)))

-- a window changed where it was found
pub changed_there : (b : ℤ) (ws : List Window) (n : ℤ) (i : ℕ) (f : Window → Window) (d : Window) → IsRisingFrom b (handles_of_windows ws)
    → position (has_handle n) ws ≡ Some i → set ws i (f (get_or ws i d)) ≡ map (λ w. if int_eq w.handle n then f w else w) ws
changed_there b ws n i f d r e =
    let first = position-Some (has_handle n) ws i d e in
    sym (map_at (has_handle n) f ws i d first.0 first.1 first.2 (find_none (has_handle n) (drop (i + 1) ws) behind))
  where
    equal_below : (a c : ℤ) → a <ℤ c → int_eq a n ≡ true → int_eq c n ≡ false
    equal_below a c h e = grind (arith, ints)

    behind : (k : ℕ) (x : Window) → k < length (drop (i + 1) ws) → int_eq (get_or (drop (i + 1) ws) k x).handle n ≡ false
    behind k x h =
        let first = position-Some (has_handle n) ws i x e in
        let there : get_or (drop (i + 1) ws) k x ≡ get_or ws (i + 1 + k) x = get_or-drop (i + 1) ws k x in
        subst (λ (w : Window). int_eq w.handle n ≡ false) (sym there)
        (equal_below (get_or ws i x).handle (get_or ws (i + 1 + k) x).handle
        (rising b ws i (i + 1 + k) x r (omega arith) (omega (arith, length-drop (i + 1) ws))) first.1)
