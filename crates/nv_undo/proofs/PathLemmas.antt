-- The ancestors of a number, and the path between two numbers, step by step.
use Rattle.std.proofs.Common.{◌≡◌, ◌<◌, ◌≤◌, ◌+◌, List, [], ◌∷◌, ◌++◌, ℕ, zero, suc, refl, ap, sym, ◌∙◌, subst, map, reverse, arith, true, false, not, cond, eqb, ◌||◌, inl, inr, Option, Some, None}
use Rattle.std.proofs.lemmas.Bool.{cases_order, ne_eqb, or_from}
use Rattle.std.proofs.lemmas.List.{append_assoc, map-append, reverse-append}
use Rattle.std.proofs.lemmas.Option.{none-some}
use Rattle.std.specs.Option.{option_map_or}
use Rattle.nv_undo.specs.declared.legs.Leg.{Leg}
use Rattle.nv_undo.specs.declared.legs.Leg.TheVariants.{Back, Ahead}
use Rattle.nv_undo.specs.Tree.{Undo, IsTree, last, parent_of, ancestors_within, ancestors, has, those_outside, path}
use Rattle.nv_undo.proofs.ListLemmas.{has_first, without_all, without_same}
use Rattle.nv_undo.proofs.NumberLemmas.{some_parent}

-- ---- paths between lists of ancestors
-- the path between numbers with these ancestors
abbrev pub legs_between : List ℕ → List ℕ → List Leg
legs_between from to = map Back (those_outside to from) ++ map Ahead (reverse (those_outside from to))

-- a number that isn't among those of a list is another than each of them
outside_differs : (ns : List ℕ) (n k : ℕ) → has ns n ≡ false → has ns k ≡ true → eqb n k ≡ false
outside_differs ns n k outside inside =
    ne_eqb n k (λ same. let there : has ns n ≡ true = subst (λ m. has ns m ≡ true) (sym same) inside in absurd cc)

-- a number that isn't there changes nothing of what is left
without_cons : (n : ℕ) (ns ms : List ℕ) → has ms n ≡ false → those_outside (n ∷ ns) ms ≡ those_outside ns ms
without_cons n ns ms outside =
    without_same (n ∷ ns) ns ms (λ k inside. ap (λ b. b || has ns k) (outside_differs ms n k outside inside))

keeps_first : (n : ℕ) (ns ms : List ℕ) → has ns n ≡ false → those_outside ns (n ∷ ms) ≡ n ∷ those_outside ns ms
keeps_first n ns ms outside = ap (λ b. cond (not b) (n ∷ those_outside ns ms) (those_outside ns ms)) outside

legs_back : (n : ℕ) (from to : List ℕ) → has to n ≡ false → legs_between (n ∷ from) to ≡ Back n ∷ legs_between from to
legs_back n from to outside = λ i.
    map Back (keeps_first n to from outside i) ++ map Ahead (reverse (without_cons n from to outside i))

legs_ahead : (n : ℕ) (from to : List ℕ) → has from n ≡ false → legs_between from (n ∷ to) ≡ legs_between from to ++ Ahead n ∷ []
legs_ahead n from to outside =
    let turned : reverse (those_outside from (n ∷ to)) ≡ reverse (those_outside from to) ++ n ∷ [] =
    ap reverse (keeps_first n from to outside) ∙ reverse-append (n ∷ []) (those_outside from to) in
    (λ i. map Back (without_cons n to from outside i) ++ map Ahead (turned i))
    ∙ (ap (λ legs. map Back (those_outside to from) ++ legs) (map-append Ahead (reverse (those_outside from to)) (n ∷ []))
    ∙ sym (append_assoc (map Back (those_outside to from)) (map Ahead (reverse (those_outside from to))) (Ahead n ∷ [])))

legs_none : (ns : List ℕ) → legs_between ns ns ≡ []
legs_none ns =
    let nothing : those_outside ns ns ≡ [] = without_all ns ns (λ k inside. inside) in
    λ i. map Back (nothing i) ++ map Ahead (reverse (nothing i))

module _ {E : Type 0} where
  -- ---- ancestors
  -- they begin with the number itself
  pub ancestors_first : (t : Undo E) (n : ℕ) → (rest : List ℕ) × (ancestors t n ≡ n ∷ rest)
  ancestors_first t zero = ([], refl)
  ancestors_first t (suc n) = (option_map_or (ancestors_within n t) (parent_of t (suc n)) [], refl)

  pub has_itself : (t : Undo E) (n : ℕ) → has (ancestors t n) n ≡ true
  has_itself t n = let first = ancestors_first t n in ap (λ ns. has ns n) first.1 ∙ has_first n first.0

  -- more steps than the number come no further
  more_steps : (t : Undo E) → IsTree t → (j k n : ℕ) → n ≤ j → n ≤ k → ancestors_within j t n ≡ ancestors_within k t n
  more_steps t tree zero zero n below_j below_k = refl
  more_steps t tree zero (suc k) zero below_j below_k = refl
  more_steps t tree zero (suc k) (suc n) below_j below_k = absurd (omega arith)
  more_steps t tree (suc j) zero zero below_j below_k = refl
  more_steps t tree (suc j) zero (suc n) below_j below_k = absurd (omega arith)
  more_steps t tree (suc j) (suc k) n below_j below_k =
      by_case (λ p lower. more_steps t tree j k p (omega arith) (omega arith)) (parent_of t n) refl
    where
      by_case : ((p : ℕ) → p < n → ancestors_within j t p ≡ ancestors_within k t p) → (o : Option ℕ) → parent_of t n ≡ o
          → n ∷ option_map_or (ancestors_within j t) o [] ≡ n ∷ option_map_or (ancestors_within k t) o []
      by_case lower None is = refl
      by_case lower (Some p) is = ap (λ ns. n ∷ ns) (lower p (tree.below n p is))

  -- and go on with those of the parent
  pub ancestors_step : (t : Undo E) (n p : ℕ) → IsTree t → parent_of t n ≡ Some p → ancestors t n ≡ n ∷ ancestors t p
  ancestors_step t zero p tree is = absurd (none-some p is)
  ancestors_step t (suc n) p tree is =
      ap (λ o. suc n ∷ option_map_or (ancestors_within n t) o []) is
      ∙ ap (λ ns. suc n ∷ ns) (more_steps t tree n p p (omega (arith, tree.below (suc n) p is)) (omega arith))

  pub ancestors_alone : (t : Undo E) (n : ℕ) → parent_of t n ≡ None → ancestors t n ≡ n ∷ []
  ancestors_alone t zero is = refl
  ancestors_alone t (suc n) is = ap (λ o. suc n ∷ option_map_or (ancestors_within n t) o []) is

  none_above : (t : Undo E) → IsTree t → (steps n k : ℕ) → n < k → has (ancestors_within steps t n) k ≡ false
  none_above t tree zero n k above = or_from (eqb n k) false (ne_eqb n k (λ same. omega arith)) refl
  none_above t tree (suc steps) n k above =
      or_from (eqb n k) (has (option_map_or (ancestors_within steps t) (parent_of t n) []) k) (ne_eqb n k (λ same. omega arith))
      (by_case (λ p lower. none_above t tree steps p k (omega arith)) (parent_of t n) refl)
    where
      by_case : ((p : ℕ) → p < n → has (ancestors_within steps t p) k ≡ false) → (o : Option ℕ) → parent_of t n ≡ o
          → has (option_map_or (ancestors_within steps t) o []) k ≡ false
      by_case lower None is = refl
      by_case lower (Some p) is = lower p (tree.below n p is)

  -- each of them is at most the number
  pub ancestors_below : (t : Undo E) (n k : ℕ) → IsTree t → n < k → has (ancestors t n) k ≡ false
  ancestors_below t n k tree above = none_above t tree n n k above

  -- ---- the path
  pub path_none : (t : Undo E) (n : ℕ) → path t n n ≡ []
  path_none t n = legs_none (ancestors t n)

  -- a number that isn't among the ancestors of the other end is left first, or entered last
  pub path_back : (t : Undo E) (n p to : ℕ) → IsTree t → parent_of t n ≡ Some p → has (ancestors t to) n ≡ false
      → path t n to ≡ Back n ∷ path t p to
  path_back t n p to tree is outside =
      ap (λ ns. legs_between ns (ancestors t to)) (ancestors_step t n p tree is) ∙ legs_back n (ancestors t p) (ancestors t to) outside

  pub path_ahead : (t : Undo E) (from n p : ℕ) → IsTree t → parent_of t n ≡ Some p → has (ancestors t from) n ≡ false
      → path t from n ≡ path t from p ++ Ahead n ∷ []
  path_ahead t from n p tree is outside =
      ap (legs_between (ancestors t from)) (ancestors_step t n p tree is) ∙ legs_ahead n (ancestors t from) (ancestors t p) outside

  -- so the greater of two numbers is
  pub greater_back : (t : Undo E) (n p to : ℕ) → IsTree t → parent_of t n ≡ Some p → to < n → path t n to ≡ Back n ∷ path t p to
  greater_back t n p to tree is lower = path_back t n p to tree is (ancestors_below t to n tree lower)

  pub greater_ahead : (t : Undo E) (from n p : ℕ) → IsTree t → parent_of t n ≡ Some p → from < n
      → path t from n ≡ path t from p ++ Ahead n ∷ []
  greater_ahead t from n p tree is lower = path_ahead t from n p tree is (ancestors_below t from n tree lower)

  -- ---- two walks that meet: the legs so far, the path between them, and the legs of the other walk, its last one first
  pub walk_back : (t : Undo E) (n p to : ℕ) (legs longer ahead : List Leg) → IsTree t → parent_of t n ≡ Some p → to < n
      → longer ≡ legs ++ Back n ∷ []
      → longer ++ (path t p to ++ reverse ahead) ≡ legs ++ (path t n to ++ reverse ahead)
  walk_back t n p to legs longer ahead tree is lower more =
      ap (λ ls. ls ++ (path t p to ++ reverse ahead)) more
      ∙ (append_assoc legs (Back n ∷ []) (path t p to ++ reverse ahead)
      ∙ ap (λ ls. legs ++ (ls ++ reverse ahead)) (sym (greater_back t n p to tree is lower)))

  pub walk_ahead : (t : Undo E) (from n p : ℕ) (legs ahead longer : List Leg) → IsTree t → parent_of t n ≡ Some p → from < n
      → longer ≡ ahead ++ Ahead n ∷ []
      → legs ++ (path t from p ++ reverse longer) ≡ legs ++ (path t from n ++ reverse ahead)
  walk_ahead t from n p legs ahead longer tree is lower more =
      let turned : reverse longer ≡ Ahead n ∷ reverse ahead = ap reverse more ∙ reverse-append ahead (Ahead n ∷ []) in
      ap (λ ls. legs ++ (path t from p ++ ls)) turned
      ∙ ap (λ ls. legs ++ ls) (sym (append_assoc (path t from p) (Ahead n ∷ []) (reverse ahead))
      ∙ ap (λ ls. ls ++ reverse ahead) (sym (greater_ahead t from n p tree is lower)))

  pub walks_meet : (t : Undo E) (from to : ℕ) (legs ahead : List Leg) → from ≡ to
      → legs ++ reverse ahead ≡ legs ++ (path t from to ++ reverse ahead)
  walks_meet t from to legs ahead meet =
      ap (λ ls. legs ++ (ls ++ reverse ahead)) (sym (path_none t from) ∙ ap (path t from) meet)

  -- what holds of each number and itself, and is kept where the greater of two numbers takes the place of its parent, holds of all
  module _ (t : Undo E) (tree : IsTree t) (P : ℕ → ℕ → Type 0) (same : (n : ℕ) → P n n)
      (back : (n p to : ℕ) → parent_of t n ≡ Some p → to < n → P p to → P n to)
      (ahead : (from n p : ℕ) → parent_of t n ≡ Some p → from < n → P from p → P from n) where
    by_steps : (fuel from to : ℕ) → from + to ≤ fuel → from ≤ last t → to ≤ last t → P from to
    by_steps zero from to few from_in to_in =
        let zeros : from ≡ to = omega arith in subst (λ (n : ℕ). P from n) zeros (same from)
    by_steps (suc fuel) from to few from_in to_in =
        elim (cases_order from to) [
          | inl meet ↦ subst (λ (n : ℕ). P from n) meet (same from)
          | inr (inl lower) ↦ (
              let parent = some_parent t to (omega arith) to_in in
              let below : parent.0 < to = tree.below to parent.0 parent.1 in
              ahead from to parent.0 parent.1 lower (by_steps fuel from parent.0 (omega arith) from_in (omega arith))
              )
          | inr (inr lower) ↦ (
              let parent = some_parent t from (omega arith) from_in in
              let below : parent.0 < from = tree.below from parent.0 parent.1 in
              back from parent.0 to parent.1 lower (by_steps fuel parent.0 to (omega arith) (omega arith) to_in)
              )
        ]

    pub by_greater : (from to : ℕ) → from ≤ last t → to ≤ last t → P from to
    by_greater from to from_in to_in = by_steps (from + to) from to (omega arith) from_in to_in
