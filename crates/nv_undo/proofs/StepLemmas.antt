-- Each step from a tree comes to a tree.
use Rattle.std.proofs.Common.{◌≡◌, ◌≤◌, List, [], ◌∷◌, ◌++◌, ℕ, zero, suc, refl, ap, sym, ◌∙◌, subst, length, get_or, arith, false, ◌⊎◌, inl, inr, Option, Some, None, is_some}
use Rattle.std.proofs.lemmas.Bool.{cases_eq}
use Rattle.std.proofs.lemmas.List.{length-set, length_push, set-get_or}
use Rattle.std.proofs.lemmas.Option.{same_Some, none-some}
use Rattle.std.specs.Prelude.{◌≢◌, slice_set, unwrap_or}
use Rattle.std.specs.Option.{option_map_or}
use Rattle.nv_undo.specs.Tree.{Undo, IsTree, tree_of, no_changes, last, parent_of, child_of, pushed, gone_back, gone_ahead, entered_child}
use Rattle.nv_undo.specs.Laws.{EntersOnly, StaysTree, ChildIsThere, PushStands, EnteringStands, UndoneAndRedone}
use Rattle.nv_undo.proofs.NumberLemmas.{child_named_some, parent_within, numbered-old, numbered-new, parent-old, parent-new, parent_same, last-pushed, push_enters, child_enters}

-- ---- no change
no_parent : (E : Type 0) (n p : ℕ) → parent_of {E = E} no_changes n ≡ Some p → ⊥
no_parent E zero p is = none-some p is
no_parent E (suc place) p is = none-some p is

no_child : (E : Type 0) (n k : ℕ) → child_of {E = E} no_changes n ≡ Some k → ⊥
no_child E zero k is = none-some k is
no_child E (suc n) k is = none-some k is

module _ {E : Type 0} where
  pub first_tree : IsTree {E = E} no_changes
  first_tree = record {
    counted = refl;
    within = omega arith;
    below = λ k n is. absurd (no_parent E k n is);
    child = λ n k is. absurd (no_child E n k is);
    some_child = λ n k is. absurd (no_parent E k n is);
  }

  -- ---- a tree whose children last entered change at one number alone
  entered_tree : (t u : Undo E) (n k : ℕ) → IsTree t → u.changes ≡ t.changes → length u.entered ≡ length t.entered → u.current ≤ last t
      → parent_of t k ≡ Some n → EntersOnly t u n k → IsTree u
  entered_tree t u n k tree same long within is enters =
      let parents : (j : ℕ) → parent_of u j ≡ parent_of t j = parent_same u t same in
      record {
        counted = long ∙ (tree.counted ∙ ap (λ cs. suc (length cs)) (sym same));
        within = omega (arith, ap length same);
        below = λ j m has. tree.below j m (sym (parents j) ∙ has);
        child = λ m j has. elim (cases_eq m n) [
          | inl at ↦ (
              let there : j ≡ k = same_Some j k (sym has ∙ (ap (child_of u) at ∙ enters.entered)) in
              parents j ∙ (ap (parent_of t) there ∙ (is ∙ ap Some (sym at)))
              )
          | inr other ↦ parents j ∙ tree.child m j (sym (enters.others m other) ∙ has)
        ];
        some_child = λ m j has. elim (cases_eq m n) [
          | inl at ↦ ap is_some (ap (child_of u) at ∙ enters.entered)
          | inr other ↦ ap is_some (enters.others m other) ∙ tree.some_child m j (sym (parents j) ∙ has)
        ];
      }

  pub child_tree : (k : ℕ) (t : Undo E) → IsTree t → parent_of t k ≡ Some t.current → IsTree (entered_child k t)
  child_tree k t tree is =
      entered_tree t (entered_child k t) t.current k tree refl (length-set t.entered (unwrap_or (parent_of t k) 0) k)
      (parent_within t k t.current is).1 is (child_enters t t.current k tree is)

  -- the child may be kept at the number that the text is at
  pub entered_stays : (t : Undo E) (k : ℕ) → IsTree t → parent_of t k ≡ Some t.current
      → IsTree (tree_of t.changes k (slice_set t.entered t.current k))
  entered_stays t k tree is =
      subst (λ (o : Option ℕ). IsTree (tree_of t.changes k (slice_set t.entered (unwrap_or o 0) k))) is (child_tree k t tree is)

  pub ahead_tree : (t : Undo E) → IsTree t → IsTree (gone_ahead t)
  ahead_tree t tree = by_case (child_of t t.current) refl
    where
      by_case : (o : Option ℕ) → child_of t t.current ≡ o → IsTree (option_map_or (λ k. entered_child k t) o t)
      by_case None is = tree
      by_case (Some k) is = child_tree k t tree (tree.child t.current k is)

  pub back_tree : (t : Undo E) → IsTree t → IsTree (gone_back t)
  back_tree t tree = record {
    counted = tree.counted;
    within = by_case (parent_of t t.current) refl;
    below = λ k n is. tree.below k n (parent_same (gone_back t) t refl k ∙ is);
    child = λ n k is. parent_same (gone_back t) t refl k ∙ tree.child n k is;
    some_child = λ n k is. tree.some_child n k (sym (parent_same (gone_back t) t refl k) ∙ is);
  }
    where
      by_case : (o : Option ℕ) → parent_of t t.current ≡ o → unwrap_or o t.current ≤ last t
      by_case None is = tree.within
      by_case (Some p) is = omega (arith, tree.below t.current p is, tree.within)

  -- ---- a change that is made
  -- each number of the new tree is one of the old ones, the new one, or none
  pushed_cases : (e : E) (t : Undo E) (k n : ℕ) → parent_of (pushed e t) k ≡ Some n
      → (parent_of t k ≡ Some n) ⊎ ((k ≡ suc (last t)) × (n ≡ t.current))
  pushed_cases e t k n is =
      let within : k ≤ suc (last t) = omega (arith, (parent_within (pushed e t) k n is).1, last-pushed e t) in
      elim (cases_eq k (suc (last t))) [
        | inl new ↦ inr (new, same_Some n t.current (sym is ∙ (ap (parent_of (pushed e t)) new ∙ parent-new e t)))
        | inr old ↦ inl (sym (parent-old e t k (omega arith)) ∙ is)
      ]

  pub push_tree : (e : E) (t : Undo E) → IsTree t → IsTree (pushed e t)
  push_tree e t tree = record {
    counted =
        omega (arith, length_push (slice_set t.entered t.current (suc (last t))) 0, length-set t.entered t.current (suc (last t)), tree.counted, last-pushed e t);
    within = omega (arith, last-pushed e t);
    below = λ k n is. elim (pushed_cases e t k n is) [
      | inl old ↦ tree.below k n old
      | inr new ↦ omega (arith, new.0, new.1, tree.within)
    ];
    child = λ n k is. elim (cases_eq n t.current) [
      | inl here ↦ (
          let there : k ≡ suc (last t) = same_Some k (suc (last t)) (sym is ∙ (ap (child_of (pushed e t)) here ∙ enters.entered)) in
          ap (parent_of (pushed e t)) there ∙ (parent-new e t ∙ ap Some (sym here))
          )
      | inr other ↦ (
          let old : parent_of t k ≡ Some n = tree.child n k (sym (enters.others n other) ∙ is) in
          parent-old e t k (parent_within t k n old).1 ∙ old
          )
    ];
    some_child = λ n k is. elim (cases_eq n t.current) [
      | inl here ↦ ap is_some (ap (child_of (pushed e t)) here ∙ enters.entered)
      | inr other ↦ elim (pushed_cases e t k n is) [
        | inl old ↦ ap is_some (enters.others n other) ∙ tree.some_child n k old
        | inr new ↦ absurd (other new.1)
      ]
    ];
  }
    where
      enters : EntersOnly t (pushed e t) t.current (suc (last t))
      enters = push_enters e t tree

  -- what was kept by its parts is the tree
  pub pushed_stays : (e : E) (t : Undo E) (changes : List (ℕ × E)) (current : ℕ) (entered : List ℕ) → IsTree t
      → changes ≡ t.changes ++ (t.current, e) ∷ [] → current ≡ suc (last t)
      → entered ≡ slice_set t.entered t.current current ++ 0 ∷ [] → IsTree (tree_of changes current entered)
  pushed_stays e t changes current entered tree all at kept =
      let ends : entered ≡ slice_set t.entered t.current (suc (last t)) ++ 0 ∷ [] =
      kept ∙ ap (λ n. slice_set t.entered t.current n ++ 0 ∷ []) at in
      subst (λ (u : Undo E). IsTree u) (λ i. tree_of (sym all i) (sym at i) (sym ends i)) (push_tree e t tree)

  pub stays_tree : StaysTree E
  stays_tree = record { first = first_tree; push = push_tree; back = back_tree; child = child_tree; ahead = ahead_tree }

  -- ---- the laws of steps
  pub child_is_there : ChildIsThere E
  child_is_there t n tree = (forth, λ none. back (child_of t n) refl none)
    where
      forth : child_of t n ≡ None → (k : ℕ) → parent_of t k ≢ Some n
      forth none k is = let e : is_some (child_of t n) ≡ false = ap is_some none in let f = tree.some_child n k is in absurd cc

      back : (o : Option ℕ) → child_of t n ≡ o → ((k : ℕ) → parent_of t k ≢ Some n) → child_of t n ≡ None
      back None is none = is
      back (Some k) is none = absurd (none k (tree.child n k is))

  pub push_stands : PushStands E
  push_stands e t tree = (numbered-new e t, λ n within. numbered-old e t n within, push_enters e t tree)

  pub entering_stands : EnteringStands E
  entering_stands t n k tree is = child_enters t n k tree is

  -- to enter the child that was entered last changes no child last entered
  pub undone_and_redone : UndoneAndRedone E
  undone_and_redone e t tree =
      let parent : parent_of (pushed e t) (suc (last t)) ≡ Some t.current = parent-new e t in
      let back : gone_back (pushed e t) ≡ tree_of (pushed e t).changes t.current (pushed e t).entered =
      ap (λ o. tree_of (pushed e t).changes (unwrap_or o (suc (last t))) (pushed e t).entered) parent in
      (ap (λ (u : Undo E). u.current) back, ap gone_ahead back ∙ redone)
    where
      -- the new tree, back at the number before
      there : Undo E
      there = tree_of (pushed e t).changes t.current (pushed e t).entered

      entered : child_of there t.current ≡ Some (suc (last t))
      entered = (push_enters e t tree).entered

      kept : slice_set (pushed e t).entered t.current (suc (last t)) ≡ (pushed e t).entered
      kept =
          let at : get_or (pushed e t).entered t.current 0 ≡ suc (last t) =
          child_named_some (get_or (pushed e t).entered t.current 0) (suc (last t)) entered in
          subst (λ (n : ℕ). slice_set (pushed e t).entered t.current n ≡ (pushed e t).entered) at
          (set-get_or (pushed e t).entered t.current 0)

      redone : gone_ahead there ≡ pushed e t
      redone =
          ap (λ o. option_map_or (λ k. entered_child k there) o there) entered
          ∙ (ap (λ o. tree_of (pushed e t).changes (suc (last t)) (slice_set (pushed e t).entered (unwrap_or o 0) (suc (last t)))) (parent-new e t)
          ∙ ap (tree_of (pushed e t).changes (suc (last t))) kept)
