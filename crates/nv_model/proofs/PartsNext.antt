-- The parts of changes: the next part of the open change was never made, and its edits are numbered.
use Rattle.std.proofs.Common.{◌≡◌, ℕ, suc, ◌+◌, ◌<◌, ◌≤◌, List, [], ◌∷◌, ◌++◌, length, take, fold, refl, ap, sym, ◌∙◌, length-append, arith, All, Bool, true, false, cond, eqb, ◌&&◌, ◌||◌, subst, Option, Some, None, inl, inr}
use Rattle.std.specs.Prelude.{option_map}
use Rattle.std.specs.Option.{option_map_or}
use Rattle.std.proofs.lemmas.Bool.{cases_eq}
use Rattle.std.proofs.lemmas.Bool.Decides.{nat_tests}
use Rattle.std.proofs.lemmas.List.{take-append-le, take_at}
use Rattle.std.proofs.lemmas.List.Elements.{All-append, All-cons, All-head, All-nil, All-tail, All-weaker}
use Rattle.std.proofs.lemmas.List.Folds.{list_any-append}
use Rattle.nv_undo.specs.Tree.{Undo, last, numbered}
use Rattle.nv_undo.proofs.NumberLemmas.{within_numbered}
use Rattle.nv_buffer.specs.declared.edit.ChangePart.{ChangePart}
use Rattle.nv_buffer.specs.declared.edit.Edit.{Edit}
use Rattle.nv_model.specs.Buffers.{Splice, Kept, ModelBuffer, text_after, text_of, is_same_part, kept_text, part_next, with_splice}
use Rattle.nv_model.specs.Undoing.{splices_at}
use Rattle.nv_model.specs.Standing.{AreNumbered, ArePartsMet, IsPartIn, is_made, text_met}
use Rattle.nv_model.proofs.KeptPlaces.{AllOther, met-more}

-- ---- edits that are numbered
pub numbered-push : (n i : ℕ) (es : List Edit) (edit : Edit) → AreNumbered n i es
    → edit.part ≡ record { change = n; part = i + length es; back = false } → AreNumbered n i (es ++ edit ∷ [])
numbered-push n i [] edit are is = (is ∙ ap (λ (k : ℕ). let p : ChangePart = record { change = n; part = k; back = false } in p) (omega arith), tt)
numbered-push n i (e ∷ es) edit are is =
    (are.0, numbered-push n (suc i) es edit are.1 (is ∙ ap (λ (k : ℕ). let p : ChangePart = record { change = n; part = k; back = false } in p) (omega arith)))

-- ---- changes that are closed have numbers up to the last one
pub closed_low : (undo : Undo Kept) (n : ℕ) → 0 < length (splices_at undo n) → n ≤ last undo
closed_low undo n some = by_case (numbered undo n) refl some
  where
    by_case : (o : Option (ℕ × Kept)) → numbered undo n ≡ o
        → 0 < length (option_map_or (λ (k : Kept). k.splices) (option_map (λ (c : ℕ × Kept). c.1) o) []) → n ≤ last undo
    by_case None here none = absurd (omega arith)
    by_case (Some c) here more = (within_numbered undo n c here).1

module _ (m : ModelBuffer) where
  -- a part that is there isn't the next one
  pub not_next : (p : ChangePart) → IsPartIn m p → is_same_part (part_next m) p ≡ false
  not_next p (inl low) =
      let closed : p.change ≤ last m.undo = closed_low m.undo p.change (omega arith) in
      numbers (suc (last m.undo)) (length m.unsealed) p.change p.part (omega arith)
    where
      numbers : (a i b j : ℕ) → b < a → (eqb a b && eqb i j) ≡ false
      numbers a i b j below = grind (arith, nat_tests)
  not_next p (inr (is, low)) = numbers (suc (last m.undo)) (length m.unsealed) p.change p.part low
    where
      numbers : (a i b j : ℕ) → j < i → (eqb a b && eqb i j) ≡ false
      numbers a i b j below = grind (arith, nat_tests)

  others : (ss : List Splice) → All (λ (t : Splice). IsPartIn m t.part) ss → AllOther (part_next m) ss
  others [] are = tt
  others (t ∷ ss) are =
      (not_next t.part (All-head (λ (u : Splice). IsPartIn m u.part) t ss are), others ss (All-tail (λ (u : Splice). IsPartIn m u.part) t ss are))

  pub next_is_new : ArePartsMet m → AllOther (part_next m) m.splices
  next_is_new parts = others m.splices parts.known

-- ---- one more splice of the open change
module _ (m : ModelBuffer) (s : Splice) (is : s.part ≡ part_next m) (parts : ArePartsMet m)
    (since : fold text_after (kept_text m.first m.undo m.undo.current) m.unsealed ≡ text_of m) where
  more : length (m.unsealed ++ s ∷ []) ≡ length m.unsealed + 1
  more = length-append m.unsealed (s ∷ [])

  known_still : (p : ChangePart) → IsPartIn m p → IsPartIn (with_splice s m) p
  known_still p (inl low) = inl low
  known_still p (inr (change, low)) = inr (change, omega (arith, more))

  known_now : IsPartIn (with_splice s m) s.part
  known_now = subst (λ (p : ChangePart). IsPartIn (with_splice s m) p) (sym is) (inr (refl, omega (arith, more)))

  not_of : (p : ChangePart) → is_same_part p (part_next m) ≡ false → is_same_part p s.part ≡ false
  not_of p other = ap (is_same_part p) is ∙ other

  met_still : (p : ChangePart) → is_same_part p (part_next m) ≡ false
      → text_met p [] m.first (m.splices ++ s ∷ []) ≡ text_met p [] m.first m.splices
  met_still p other =
      met-more p [] m.first m.splices s
      ∙ ap (λ (c : Bool). cond c (fold text_after m.first m.splices) (text_met p [] m.first m.splices)) (not_of p other)

  closed_other : (p : ChangePart) → p.part < length (splices_at m.undo p.change) → is_same_part p (part_next m) ≡ false
  closed_other p low = numbers p.change p.part (suc (last m.undo)) (length m.unsealed) (omega (arith, closed_low m.undo p.change (omega arith)))
    where
      numbers : (a i b j : ℕ) → a < b → (eqb a b && eqb i j) ≡ false
      numbers a i b j below = grind (arith, nat_tests)

  made_still : (p : ChangePart) → is_same_part p (part_next m) ≡ false → is_made p (m.splices ++ s ∷ []) ≡ true → is_made p m.splices ≡ true
  made_still p other made =
      let both : is_made p (m.splices ++ s ∷ []) ≡ (is_made p m.splices || (is_same_part p s.part || false)) =
      list_any-append (λ (t : Splice). is_same_part p t.part) m.splices (s ∷ []) in
      by_case (is_made p m.splices) (is_same_part p s.part) (not_of p other) (sym both ∙ made)
    where
      by_case : (a b : Bool) → b ≡ false → (a || (b || false)) ≡ true → a ≡ true
      by_case true b other made = refl
      by_case false true other made = cc
      by_case false false other made = cc

  open_met : (p : ChangePart) → p.change ≡ suc (last m.undo) → p.part < length (m.unsealed ++ s ∷ [])
      → text_met p [] m.first (m.splices ++ s ∷ []) ≡ fold text_after (kept_text m.first m.undo m.undo.current) (take p.part (m.unsealed ++ s ∷ []))
  unfolding text_of
  open_met p change low = elim (cases_eq p.part (length m.unsealed)) [
    | inl last_one ↦ (
        let same : is_same_part p s.part ≡ true = ap (is_same_part p) is ∙ numbers p.change p.part (suc (last m.undo)) (length m.unsealed) change last_one in
        met-more p [] m.first m.splices s
        ∙ ap (λ (c : Bool). cond c (fold text_after m.first m.splices) (text_met p [] m.first m.splices)) same
        ∙ sym since
        ∙ ap (fold text_after (kept_text m.first m.undo m.undo.current)) (sym (take_at m.unsealed (s ∷ []) p.part (sym last_one)))
        )
    | inr other ↦ (
        let within : p.part < length m.unsealed = omega (arith, more, low, other) in
        met_still p (below p.change p.part (suc (last m.undo)) (length m.unsealed) within)
        ∙ parts.since p change within
        ∙ ap (fold text_after (kept_text m.first m.undo m.undo.current)) (sym (take-append-le p.part m.unsealed (s ∷ []) (omega arith)))
        )
  ]
    where
      numbers : (a i b j : ℕ) → a ≡ b → i ≡ j → (eqb a b && eqb i j) ≡ true
      numbers a i b j first second = grind (arith, nat_tests)

      below : (a i b j : ℕ) → i < j → (eqb a b && eqb i j) ≡ false
      below a i b j low = grind (arith, nat_tests)

  pub parts_more : ArePartsMet (with_splice s m)
  parts_more = record {
    known =
        All-append (λ (t : Splice). IsPartIn (with_splice s m) t.part) m.splices (s ∷ [])
        (All-weaker (λ (t : Splice). IsPartIn m t.part) (λ (t : Splice). IsPartIn (with_splice s m) t.part) (λ t here. known_still t.part here) m.splices parts.known)
        (All-cons (λ (t : Splice). IsPartIn (with_splice s m) t.part) s [] known_now (All-nil (λ (t : Splice). IsPartIn (with_splice s m) t.part)));
    changes = λ p low made.
        met_still p (closed_other p low) ∙ parts.changes p low (made_still p (closed_other p low) made);
    since = open_met;
  }
