-- The path leads where it should, is the only direct way, and comes there.
use Rattle.std.proofs.Common.{◌≡◌, ◌<◌, ◌≤◌, ◌+◌, List, [], ◌∷◌, ◌++◌, ℕ, zero, suc, pred, refl, ap, sym, ◌∙◌, subst, length, map, reverse, arith, Bool, true, false, eqb, ◌||◌, inl, inr, Option, Some, None}
use Rattle.std.proofs.lemmas.Bool.{cases_eq, cases_Bool, cases_lt, eq-eqb, ne_eqb, or_left, or_right, or_from}
use Rattle.std.proofs.lemmas.List.{length_push}
use Rattle.std.specs.Prelude.{unwrap_or}
use Rattle.nv_undo.specs.declared.legs.Leg.{Leg}
use Rattle.nv_undo.specs.declared.legs.Leg.TheVariants.{Back, Ahead}
use Rattle.nv_undo.specs.Tree.{Undo, IsTree, parent_of, ancestors, has, those_outside, path, gone_back, entered_child}
use Rattle.nv_undo.specs.Ways.{Leads, leaves, enters, IsDirect, tree_depth}
use Rattle.nv_undo.specs.Laws.{PathLeads, PathIsDirect, PathIsOnly, PathIsShort, WaysArrive, PathArrives}
use Rattle.nv_undo.proofs.ListLemmas.{has-reverse, has-reverse_true, without_outside, without_inside, without_kept}
use Rattle.nv_undo.proofs.NumberLemmas.{parent_same, parent_within}
use Rattle.nv_undo.proofs.StepLemmas.{back_tree, child_tree}
use Rattle.nv_undo.proofs.PathLemmas.{ancestors_first, has_itself, ancestors_step, ancestors_alone, ancestors_below, path_none, path_back, greater_back, greater_ahead, by_greater}

-- ---- what a way leaves and enters
leaves-append : (k : ℕ) (a b : List Leg) → leaves k (a ++ b) ≡ (leaves k a || leaves k b)
leaves-append k [] b = refl
leaves-append k (Back n ∷ a) b = by_case (eqb n k) (leaves-append k a b)
  where
    by_case : (c : Bool) → leaves k (a ++ b) ≡ (leaves k a || leaves k b) → (c || leaves k (a ++ b)) ≡ ((c || leaves k a) || leaves k b)
    by_case true rest = refl
    by_case false rest = rest
leaves-append k (Ahead n ∷ a) b = leaves-append k a b

enters-append : (k : ℕ) (a b : List Leg) → enters k (a ++ b) ≡ (enters k a || enters k b)
enters-append k [] b = refl
enters-append k (Back n ∷ a) b = enters-append k a b
enters-append k (Ahead n ∷ a) b = by_case (eqb n k) (enters-append k a b)
  where
    by_case : (c : Bool) → enters k (a ++ b) ≡ (enters k a || enters k b) → (c || enters k (a ++ b)) ≡ ((c || enters k a) || enters k b)
    by_case true rest = refl
    by_case false rest = rest

leaves-Back : (k : ℕ) (ns : List ℕ) → leaves k (map Back ns) ≡ has ns k
leaves-Back k [] = refl
leaves-Back k (n ∷ ns) = ap (λ b. eqb n k || b) (leaves-Back k ns)

leaves-Ahead : (k : ℕ) (ns : List ℕ) → leaves k (map Ahead ns) ≡ false
leaves-Ahead k [] = refl
leaves-Ahead k (n ∷ ns) = leaves-Ahead k ns

enters-Back : (k : ℕ) (ns : List ℕ) → enters k (map Back ns) ≡ false
enters-Back k [] = refl
enters-Back k (n ∷ ns) = enters-Back k ns

enters-Ahead : (k : ℕ) (ns : List ℕ) → enters k (map Ahead ns) ≡ has ns k
enters-Ahead k [] = refl
enters-Ahead k (n ∷ ns) = ap (λ b. eqb n k || b) (enters-Ahead k ns)

-- a way that begins with a leg and is direct goes on directly
direct_rest_back : (k : ℕ) (legs : List Leg) → IsDirect (Back k ∷ legs) → IsDirect legs
direct_rest_back k legs direct j left = direct j (or_right (eqb k j) (leaves j legs) left)

direct_rest_ahead : (k : ℕ) (legs : List Leg) → IsDirect (Ahead k ∷ legs) → IsDirect legs
direct_rest_ahead k legs direct j left = by_case (eqb k j) (direct j left)
  where
    by_case : (b : Bool) → (b || enters j legs) ≡ false → enters j legs ≡ false
    by_case true h = absurd cc
    by_case false h = h

module _ {E : Type 0} where
  -- the path leaves what is an ancestor of the first end alone, and enters what is one of the second end alone
  path_leaves : (t : Undo E) (from to k : ℕ)
      → leaves k (path t from to) ≡ has (those_outside (ancestors t to) (ancestors t from)) k
  path_leaves t from to k =
      let left = those_outside (ancestors t to) (ancestors t from) in
      let entered = reverse (those_outside (ancestors t from) (ancestors t to)) in
      leaves-append k (map Back left) (map Ahead entered)
      ∙ ((λ i. leaves-Back k left i || leaves-Ahead k entered i) ∙ or_false (has left k))
    where
      or_false : (b : Bool) → (b || false) ≡ b
      or_false true = refl
      or_false false = refl

  path_enters : (t : Undo E) (from to k : ℕ)
      → enters k (path t from to) ≡ has (reverse (those_outside (ancestors t from) (ancestors t to))) k
  path_enters t from to k =
      let left = those_outside (ancestors t to) (ancestors t from) in
      let entered = reverse (those_outside (ancestors t from) (ancestors t to)) in
      enters-append k (map Back left) (map Ahead entered) ∙ (λ i. enters-Back k left i || enters-Ahead k entered i)

  pub path_direct : PathIsDirect E
  path_direct t from to k left =
      elim (cases_Bool (has (ancestors t from) k)) [
        | inl of_from ↦
            path_enters t from to k
            ∙ has-reverse (those_outside (ancestors t from) (ancestors t to)) k (without_inside (ancestors t from) (ancestors t to) k of_from)
        | inr other ↦ (
            let not_left : leaves k (path t from to) ≡ false =
            path_leaves t from to k ∙ without_outside (ancestors t to) (ancestors t from) k other in
            absurd cc
            )
      ]

  -- ---- ways one after another
  pub leads_then : (t : Undo E) (a b c : ℕ) (first second : List Leg) → Leads t a first b → Leads t b second c
      → Leads t a (first ++ second) c
  leads_then t a b c [] second here there = subst (λ (n : ℕ). Leads t n second c) (sym here) there
  leads_then t a b c (Back k ∷ first) second way there =
      (way.0, way.1, way.2, leads_then t way.0 b c first second way.3 there)
  leads_then t a b c (Ahead k ∷ first) second way there = (way.0, leads_then t k b c first second way.1 there)

  pub path_leads : PathLeads E
  path_leads t from to tree from_in to_in =
      by_greater t tree (λ a b. Leads t a (path t a b) b)
      (λ n. subst (λ (legs : List Leg). Leads t n legs n) (sym (path_none t n)) refl)
      (λ n p b is lower rest. subst (λ (legs : List Leg). Leads t n legs b) (sym (greater_back t n p b tree is lower)) (p, refl, is, rest))
      (λ a n p is lower rest.
      subst (λ (legs : List Leg). Leads t a legs n) (sym (greater_ahead t a n p tree is lower))
      (leads_then t a p n (path t a p) (Ahead n ∷ []) rest (is, refl)))
      from to from_in to_in

  -- ---- its length
  depth_step : (t : Undo E) (n p : ℕ) → IsTree t → parent_of t n ≡ Some p → tree_depth t n ≡ suc (tree_depth t p)
  depth_step t n p tree is =
      let long : length (ancestors t p) ≡ suc (pred (length (ancestors t p))) =
      (let first = ancestors_first t p in
      subst (λ (ns : List ℕ). length ns ≡ suc (pred (length ns))) (sym first.1) refl) in
      ap (λ ns. pred (length ns)) (ancestors_step t n p tree is) ∙ long

  pub path_short : PathIsShort E
  path_short t from to tree from_in to_in =
      by_greater t tree (λ a b. length (path t a b) ≤ tree_depth t a + tree_depth t b)
      (λ n. let nothing : length (path t n n) ≡ 0 = ap length (path_none t n) in omega arith)
      (λ n p b is lower rest.
      let long : length (path t n b) ≡ suc (length (path t p b)) = ap length (greater_back t n p b tree is lower) in
      let deep : tree_depth t n ≡ suc (tree_depth t p) = depth_step t n p tree is in
      omega arith)
      (λ a n p is lower rest.
      let long : length (path t a n) ≡ length (path t a p) + 1 =
      ap length (greater_ahead t a n p tree is lower) ∙ length_push (path t a p) (Ahead n) in
      let deep : tree_depth t n ≡ suc (tree_depth t p) = depth_step t n p tree is in
      omega arith)
      from to from_in to_in

  -- ---- the only way
  -- a child on the way up is entered first
  path_child : (t : Undo E) (from k : ℕ) → IsTree t → parent_of t k ≡ Some from → (fuel to : ℕ) → to ≤ fuel
      → has (ancestors t to) k ≡ true → path t from to ≡ Ahead k ∷ path t k to
  path_child t from k tree is zero to few above =
      let some = parent_within t k from is in
      let outside : has (ancestors t to) k ≡ false = ancestors_below t to k tree (omega arith) in
      absurd cc
  path_child t from k tree is (suc fuel) to few above =
      elim (cases_eq to k) [
        | inl here ↦ subst (λ (n : ℕ). path t from n ≡ Ahead k ∷ path t k n) (sym here) at_child
        | inr other ↦
            further other (λ p lower inside. path_child t from k tree is fuel p (omega arith) inside) (parent_of t to) refl
      ]
    where
      at_child : path t from k ≡ Ahead k ∷ path t k k
      at_child =
          greater_ahead t from k from tree is (tree.below k from is)
          ∙ (ap (λ legs. legs ++ Ahead k ∷ []) (path_none t from) ∙ ap (λ legs. Ahead k ∷ legs) (sym (path_none t k)))

      further : (to ≡ k → ⊥) → ((p : ℕ) → p < to → has (ancestors t p) k ≡ true → path t from p ≡ Ahead k ∷ path t k p)
          → (o : Option ℕ) → parent_of t to ≡ o → path t from to ≡ Ahead k ∷ path t k to
      further other lower None at =
          let outside : has (ancestors t to) k ≡ false =
          ap (λ ns. has ns k) (ancestors_alone t to at) ∙ or_from (eqb to k) false (ne_eqb to k other) refl in
          absurd cc
      further other lower (Some p) at =
          let below : p < to = tree.below to p at in
          let child : from < k = tree.below k from is in
          let inside : has (ancestors t p) k ≡ true =
          (ap (λ b. b || has (ancestors t p) k) (sym (ne_eqb to k other))
          ∙ (ap (λ ns. has ns k) (sym (ancestors_step t to p tree at)) ∙ above)) in
          elim (cases_lt p k) [
            | inl over ↦ (let outside : has (ancestors t p) k ≡ false = ancestors_below t p k tree over in absurd cc)
            | inr under ↦
                greater_ahead t from to p tree at (omega arith)
                ∙ (ap (λ legs. legs ++ Ahead to ∷ []) (lower p below inside)
                ∙ ap (λ legs. Ahead k ∷ legs) (sym (greater_ahead t k to p tree at (omega arith))))
          ]

  pub path_only : PathIsOnly E
  path_only t from to [] tree way direct = subst (λ (n : ℕ). [] ≡ path t from n) way (sym (path_none t from))
  path_only t from to (Back k ∷ legs) tree way direct =
      let rest : legs ≡ path t way.0 to = path_only t way.0 to legs tree way.3 (direct_rest_back k legs direct) in
      subst (λ (n : ℕ). Back k ∷ legs ≡ path t n to) way.1 (
      elim (cases_Bool (has (ancestors t to) k)) [
        | inl above ↦ (
            let kept : has (those_outside (ancestors t way.0) (ancestors t to)) k ≡ true =
            without_kept (ancestors t way.0) (ancestors t to) k (ancestors_below t way.0 k tree (tree.below k way.0 way.2)) above in
            let entered : enters k legs ≡ true =
            ap (enters k) rest
            ∙ (path_enters t way.0 to k ∙ has-reverse_true (those_outside (ancestors t way.0) (ancestors t to)) k kept) in
            let not_entered : enters k legs ≡ false = direct k (or_left (eqb k k) (leaves k legs) (eq-eqb k k refl)) in
            absurd cc
            )
        | inr other ↦ ap (λ ls. Back k ∷ ls) rest ∙ sym (path_back t k way.0 to tree way.2 other)
      ]
      )
  path_only t from to (Ahead k ∷ legs) tree way direct =
      let rest : legs ≡ path t k to = path_only t k to legs tree way.1 (direct_rest_ahead k legs direct) in
      elim (cases_Bool (has (ancestors t to) k)) [
        | inl above ↦ ap (λ ls. Ahead k ∷ ls) rest ∙ sym (path_child t from k tree way.0 to to (omega arith) above)
        | inr other ↦ (
            let left : leaves k legs ≡ true =
            ap (leaves k) rest
            ∙ (path_leaves t k to k ∙ without_kept (ancestors t to) (ancestors t k) k other (has_itself t k)) in
            let not_entered : (eqb k k || enters k legs) ≡ false = direct k left in
            let entered : (eqb k k || enters k legs) ≡ true = or_left (eqb k k) (enters k legs) (eq-eqb k k refl) in
            absurd cc
            )
      ]

  -- ---- going by a way
  leads_same : (t u : Undo E) → t.changes ≡ u.changes → (a b : ℕ) (legs : List Leg) → Leads t a legs b → Leads u a legs b
  leads_same t u same a b [] way = way
  leads_same t u same a b (Back k ∷ legs) way =
      (way.0, way.1, sym (parent_same t u same k) ∙ way.2, leads_same t u same way.0 b legs way.3)
  leads_same t u same a b (Ahead k ∷ legs) way = (sym (parent_same t u same k) ∙ way.0, leads_same t u same k b legs way.1)

  pub ways_arrive : WaysArrive E
  ways_arrive t [] to tree way = (way, refl, tree)
  ways_arrive t (Back k ∷ legs) to tree way =
      let parent : parent_of t t.current ≡ Some way.0 = ap (parent_of t) (sym way.1) ∙ way.2 in
      let at : (gone_back t).current ≡ way.0 = ap (λ o. unwrap_or o t.current) parent in
      let rest : Leads (gone_back t) (gone_back t).current legs to =
      subst (λ (n : ℕ). Leads (gone_back t) n legs to) (sym at) (leads_same t (gone_back t) refl way.0 to legs way.3) in
      ways_arrive (gone_back t) legs to (back_tree t tree) rest
  ways_arrive t (Ahead k ∷ legs) to tree way =
      ways_arrive (entered_child k t) legs to (child_tree k t tree way.0) (leads_same t (entered_child k t) refl k to legs way.1)

  pub path_arrives : PathArrives E
  path_arrives t to tree to_in =
      (ways_arrive t (path t t.current to) to tree (path_leads t t.current to tree tree.within to_in)).0
