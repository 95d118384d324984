-- What stands at the numbers of a tree.
use Rattle.std.proofs.Common.{◌≡◌, ◌<◌, ◌≤◌, List, [], ◌∷◌, ℕ, zero, suc, refl, ap, sym, ◌∙◌, subst, length, get_or, arith, Bool, true, false, cond, eqb, Option, Some, None, slice_get, option_map, is_some}
use Rattle.std.proofs.lemmas.Bool.{ne_eqb}
use Rattle.std.proofs.lemmas.List.{get_or-set_same, get_or-set_other, length_push, get_or_read}
use Rattle.std.proofs.lemmas.Option.{slice_get_within, same_Some, none-some}
use Rattle.std.specs.Prelude.{◌↔◌, slice_set, unwrap_or}
use Rattle.nv_undo.specs.Tree.{Undo, IsTree, tree_of, last, numbered, parent_of, pushed, entered_child}
use Rattle.nv_undo.specs.Laws.{EntersOnly}
use Rattle.nv_undo.proofs.ListLemmas.{slice_get_some, slice_get-append_left, slice_get-push, get_or-push_zero}

-- what a kept number says of the child last entered
abbrev pub child_named : ℕ → Option ℕ
child_named n = cond (eqb n 0) None (Some n)

pub child_named_some : (n k : ℕ) → child_named n ≡ Some k → n ≡ k
child_named_some n k is = by_case (eqb n 0) is
  where
    by_case : (b : Bool) → cond b None (Some n) ≡ Some k → n ≡ k
    by_case true is = absurd (none-some k is)
    by_case false is = same_Some n k is

pub child_named_above : (n : ℕ) → 0 < n → child_named n ≡ Some n
child_named_above n above = ap (λ b. cond b None (Some n)) (ne_eqb n 0 (λ same. omega arith))

-- a child that was read where it stands
pub child_read : (es : List ℕ) (i k : ℕ) → i < length es → k ≡ get_or es i k → 0 < k → child_named (get_or es i 0) ≡ Some k
child_read es i k within read above =
    ap child_named (sym (get_or_read es i k within read 0)) ∙ child_named_above k above

module _ {E : Type 0} where
  pub some_numbered : (t : Undo E) (n : ℕ) → 0 < n → n ≤ last t → (c : ℕ × E) × (numbered t n ≡ Some c)
  some_numbered t zero some within = absurd (omega arith)
  some_numbered t (suc place) some within = slice_get_some t.changes place (omega arith)

  pub within_numbered : (t : Undo E) (n : ℕ) (c : ℕ × E) → numbered t n ≡ Some c → (0 < n) × (n ≤ last t)
  within_numbered t zero c is = absurd (none-some c is)
  within_numbered t (suc place) c is =
      let within : place < length t.changes = slice_get_within t.changes place c is in (omega arith, omega arith)

  -- what stands at a number, by its parts
  pub parent_some : (t : Undo E) (n p : ℕ) → parent_of t n ≡ Some p → (c : ℕ × E) × (numbered t n ≡ Some c) × (c.0 ≡ p)
  parent_some t n p is = by_case (numbered t n) refl is
    where
      by_case : (o : Option (ℕ × E)) → numbered t n ≡ o → option_map (λ c. c.0) o ≡ Some p
          → (c : ℕ × E) × (numbered t n ≡ Some c) × (c.0 ≡ p)
      by_case None at is = absurd (none-some p is)
      by_case (Some c) at is = (c, at, same_Some c.0 p is)

  pub parent_within : (t : Undo E) (n p : ℕ) → parent_of t n ≡ Some p → (0 < n) × (n ≤ last t)
  parent_within t n p is = let c = parent_some t n p is in within_numbered t n c.0 c.1

  pub some_parent : (t : Undo E) (n : ℕ) → 0 < n → n ≤ last t → (p : ℕ) × (parent_of t n ≡ Some p)
  some_parent t n some within =
      let c = some_numbered t n some within in (c.0.0, ap (option_map (λ x. x.0)) c.1)

  -- something stands at the numbers from 1 to the last
  pub numbered_range : (t : Undo E) (n : ℕ) → (is_some (numbered t n) ≡ true) ↔ ((0 < n) × (n ≤ last t))
  numbered_range t n = (forth (numbered t n) refl, λ h. back (some_numbered t n h.0 h.1))
    where
      forth : (o : Option (ℕ × E)) → numbered t n ≡ o → is_some (numbered t n) ≡ true → (0 < n) × (n ≤ last t)
      forth None at is = let e : is_some (numbered t n) ≡ false = ap is_some at in absurd cc
      forth (Some c) at is = within_numbered t n c at

      back : (c : ℕ × E) × (numbered t n ≡ Some c) → is_some (numbered t n) ≡ true
      back c = ap is_some c.1

  -- trees with the same changes have the same at each number
  pub numbered_same : (t u : Undo E) → t.changes ≡ u.changes → (n : ℕ) → numbered t n ≡ numbered u n
  numbered_same t u same zero = refl
  numbered_same t u same (suc place) = ap (λ cs. slice_get cs place) same

  pub parent_same : (t u : Undo E) → t.changes ≡ u.changes → (n : ℕ) → parent_of t n ≡ parent_of u n
  parent_same t u same n = ap (option_map (λ c. c.0)) (numbered_same t u same n)

  -- ---- a change that is made
  pub numbered-old : (e : E) (t : Undo E) (n : ℕ) → n ≤ last t → numbered (pushed e t) n ≡ numbered t n
  numbered-old e t zero within = refl
  numbered-old e t (suc place) within = slice_get-append_left t.changes ((t.current, e) ∷ []) place (omega arith)

  pub numbered-new : (e : E) (t : Undo E) → numbered (pushed e t) (suc (last t)) ≡ Some (t.current, e)
  numbered-new e t = slice_get-push t.changes (t.current, e)

  pub parent-old : (e : E) (t : Undo E) (n : ℕ) → n ≤ last t → parent_of (pushed e t) n ≡ parent_of t n
  parent-old e t n within = ap (option_map (λ c. c.0)) (numbered-old e t n within)

  pub parent-new : (e : E) (t : Undo E) → parent_of (pushed e t) (suc (last t)) ≡ Some t.current
  parent-new e t = ap (option_map (λ c. c.0)) (numbered-new e t)

  pub last-pushed : (e : E) (t : Undo E) → last (pushed e t) ≡ suc (last t)
  last-pushed e t = omega (arith, length_push t.changes (t.current, e))

  -- the child last entered at the number that the text was at is the new one, and no other changes
  pub push_enters : (e : E) (t : Undo E) → IsTree t → EntersOnly t (pushed e t) t.current (suc (last t))
  push_enters e t tree = record {
    entered =
        let at : get_or (pushed e t).entered t.current 0 ≡ suc (last t) =
        get_or-push_zero (slice_set t.entered t.current (suc (last t))) t.current
        ∙ get_or-set_same t.entered t.current (suc (last t)) 0 (omega (arith, tree.counted, tree.within)) in
        ap child_named at ∙ child_named_above (suc (last t)) (omega arith);
    others = λ m other.
        ap child_named (get_or-push_zero (slice_set t.entered t.current (suc (last t))) m
        ∙ get_or-set_other t.entered t.current m (suc (last t)) 0 other);
  }

  -- ---- a child that is entered
  pub child_enters : (t : Undo E) (n k : ℕ) → IsTree t → parent_of t k ≡ Some n → EntersOnly t (entered_child k t) n k
  child_enters t n k tree is =
      let within = parent_within t k n is in
      let below : n < k = tree.below k n is in
      subst (λ (o : Option ℕ). EntersOnly t (tree_of t.changes k (slice_set t.entered (unwrap_or o 0) k)) n k) (sym is) (record {
        entered =
            ap child_named (get_or-set_same t.entered n k 0 (omega (arith, tree.counted))) ∙ child_named_above k within.0;
        others = λ m other. ap child_named (get_or-set_other t.entered n m k 0 other);
      })
