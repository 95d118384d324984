-- What whole runs of steps keep.
use Rattle.std.proofs.Common.{◌≡◌, ◌≤◌, List, [], ◌∷◌, ◌++◌, ℕ, zero, suc, refl, ap, sym, ◌∙◌, arith, Bool, true, false, cond, eqb, Option, Some, None}
use Rattle.std.proofs.lemmas.Bool.{eqb-true, eqb-false}
use Rattle.std.specs.Option.{option_map_or, option_or}
use Rattle.nv_undo.specs.Tree.{Undo, IsTree, no_changes, last, numbered, parent_of, child_of, pushed, gone_back, entered_child}
use Rattle.nv_undo.specs.Runs.{Step, is_child, after_step, after_steps, entered_by, entered_in, last_of}
use Rattle.nv_undo.specs.Runs.Step.{makes, undoes, redoes, enters}
use Rattle.nv_undo.specs.Laws.{EntersOnly, RunsStay, NothingIsLost, LastIsLast}
use Rattle.nv_undo.proofs.NumberLemmas.{numbered-old, numbered_same, last-pushed, push_enters, child_enters}
use Rattle.nv_undo.proofs.StepLemmas.{first_tree, push_tree, back_tree, ahead_tree, child_tree}

-- ---- the last of two lists is that of the second, or else that of the first
option_or_assoc : (a b c : Option ℕ) → option_or (option_or a b) c ≡ option_or a (option_or b c)
option_or_assoc None b c = refl
option_or_assoc (Some x) b c = refl

option_or_none : (a : Option ℕ) → option_or a None ≡ a
option_or_none None = refl
option_or_none (Some x) = refl

last_of-append : (es fs : List (ℕ × ℕ)) (n : ℕ) → last_of (es ++ fs) n ≡ option_or (last_of fs n) (last_of es n)
last_of-append [] fs n = sym (option_or_none (last_of fs n))
last_of-append (e ∷ es) fs n =
    let here : Option ℕ = cond (eqb e.0 n) (Some e.1) None in
    ap (λ o. option_or o here) (last_of-append es fs n) ∙ option_or_assoc (last_of fs n) (last_of es n) here

module _ {E : Type 0} where
  -- ---- one step
  is_child_true : (t : Undo E) (k : ℕ) → is_child t k ≡ true → parent_of t k ≡ Some t.current
  is_child_true t k child = by_case (parent_of t k) refl child
    where
      by_case : (o : Option ℕ) → parent_of t k ≡ o → option_map_or (λ p. eqb p t.current) o false ≡ true
          → parent_of t k ≡ Some t.current
      by_case None is child = absurd cc
      by_case (Some p) is child = is ∙ ap Some (eqb-true p t.current child)

  step_tree : (step : Step E) (t : Undo E) → IsTree t → IsTree (after_step step t)
  step_tree (makes e) t tree = push_tree e t tree
  step_tree undoes t tree = back_tree t tree
  step_tree redoes t tree = ahead_tree t tree
  step_tree (enters k) t tree = by_case (is_child t k) refl
    where
      by_case : (b : Bool) → is_child t k ≡ b → IsTree (cond b (entered_child k t) t)
      by_case true is = child_tree k t tree (is_child_true t k is)
      by_case false is = tree

  -- the changes are kept, and one may come behind them
  step_keeps : (step : Step E) (t : Undo E) (n : ℕ) → n ≤ last t → (n ≤ last (after_step step t)) × (numbered (after_step step t) n ≡ numbered t n)
  step_keeps (makes e) t n within = (omega (arith, last-pushed e t), numbered-old e t n within)
  step_keeps undoes t n within = (within, numbered_same (gone_back t) t refl n)
  step_keeps redoes t n within = by_case (child_of t t.current)
    where
      by_case : (o : Option ℕ) → (n ≤ last (option_map_or (λ k. entered_child k t) o t))
          × (numbered (option_map_or (λ k. entered_child k t) o t) n ≡ numbered t n)
      by_case None = (within, refl)
      by_case (Some k) = (within, numbered_same (entered_child k t) t refl n)
  step_keeps (enters k) t n within = by_case (is_child t k)
    where
      by_case : (b : Bool) → (n ≤ last (cond b (entered_child k t) t)) × (numbered (cond b (entered_child k t) t) n ≡ numbered t n)
      by_case true = (within, numbered_same (entered_child k t) t refl n)
      by_case false = (within, refl)

  -- the child last entered is the one that the step enters, or else the one before
  enters_last : (t u : Undo E) (m k n : ℕ) → EntersOnly t u m k → child_of u n ≡ option_or (cond (eqb m n) (Some k) None) (child_of t n)
  enters_last t u m k n only = by_case (eqb m n) refl
    where
      by_case : (b : Bool) → eqb m n ≡ b → child_of u n ≡ option_or (cond b (Some k) None) (child_of t n)
      by_case true is = ap (child_of u) (sym (eqb-true m n is)) ∙ only.entered
      by_case false is = only.others n (λ same. eqb-false m n is (sym same))

  step_enters : (step : Step E) (t : Undo E) (n : ℕ) → IsTree t
      → child_of (after_step step t) n ≡ option_or (last_of (entered_by step t) n) (child_of t n)
  step_enters (makes e) t n tree = enters_last t (pushed e t) t.current (suc (last t)) n (push_enters e t tree)
  step_enters undoes t n tree = refl
  step_enters redoes t n tree = by_case (child_of t t.current) refl
    where
      by_case : (o : Option ℕ) → child_of t t.current ≡ o
          → child_of (option_map_or (λ k. entered_child k t) o t) n
          ≡ option_or (last_of (option_map_or (λ k. (t.current, k) ∷ []) o []) n) (child_of t n)
      by_case None is = refl
      by_case (Some k) is =
          enters_last t (entered_child k t) t.current k n (child_enters t t.current k tree (tree.child t.current k is))
  step_enters (enters k) t n tree = by_case (is_child t k) refl
    where
      by_case : (b : Bool) → is_child t k ≡ b
          → child_of (cond b (entered_child k t) t) n ≡ option_or (last_of (cond b ((t.current, k) ∷ []) []) n) (child_of t n)
      by_case true is =
          enters_last t (entered_child k t) t.current k n (child_enters t t.current k tree (is_child_true t k is))
      by_case false is = refl

  -- ---- runs
  pub runs_stay : RunsStay E
  runs_stay [] t tree = tree
  runs_stay (step ∷ steps) t tree = runs_stay steps (after_step step t) (step_tree step t tree)

  pub nothing_is_lost : NothingIsLost E
  nothing_is_lost [] t n tree within = refl
  nothing_is_lost (step ∷ steps) t n tree within =
      let kept = step_keeps step t n within in
      nothing_is_lost steps (after_step step t) n (step_tree step t tree) kept.0 ∙ kept.1

  run_enters : (steps : List (Step E)) (t : Undo E) (n : ℕ) → IsTree t
      → child_of (after_steps steps t) n ≡ option_or (last_of (entered_in steps t) n) (child_of t n)
  run_enters [] t n tree = refl
  run_enters (step ∷ steps) t n tree =
      let later : Option ℕ = last_of (entered_in steps (after_step step t)) n in
      let first : Option ℕ = last_of (entered_by step t) n in
      run_enters steps (after_step step t) n (step_tree step t tree)
      ∙ (ap (λ o. option_or later o) (step_enters step t n tree)
      ∙ (sym (option_or_assoc later first (child_of t n))
      ∙ ap (λ o. option_or o (child_of t n)) (sym (last_of-append (entered_by step t) (entered_in steps (after_step step t)) n))))

  pub last_is_last : LastIsLast E
  last_is_last steps n =
      run_enters steps no_changes n first_tree
      ∙ (ap (λ o. option_or (last_of (entered_in steps no_changes) n) o) (no_children n)
      ∙ option_or_none (last_of (entered_in steps no_changes) n))
    where
      no_children : (n : ℕ) → child_of {E = E} no_changes n ≡ None
      no_children zero = refl
      no_children (suc n) = refl
