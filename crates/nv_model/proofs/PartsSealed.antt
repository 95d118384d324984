-- The parts of changes once the open one is closed.
use Rattle.std.proofs.Common.{◌≡◌, ℕ, zero, suc, ◌<◌, ◌≤◌, List, [], ◌∷◌, length, take, fold, refl, ap, sym, ◌∙◌, arith, Bool, true, false, cond, eqb, ◌||◌, if◌then◌else◌, subst, Option, Some, None, inl, inr}
use Rattle.std.specs.Prelude.{option_map, unwrap_or}
use Rattle.std.specs.Option.{option_map_or}
use Rattle.std.proofs.lemmas.Bool.{cases_eq}
use Rattle.std.proofs.lemmas.Bool.Decides.{nat_tests}
use Rattle.std.proofs.lemmas.List.Elements.{All-weaker}
use Rattle.nv_undo.specs.Tree.{Undo, IsTree, last, parent_of, pushed, has, ancestors, ancestors_within}
use Rattle.nv_undo.specs.Ways.{origin}
use Rattle.nv_undo.proofs.NumberLemmas.{numbered-old, numbered-new, last-pushed, parent-old, parent-new}
use Rattle.nv_undo.proofs.PathLemmas.{ancestors_step, has_itself}
use Rattle.nv_undo.proofs.StepLemmas.{push_tree}
use Rattle.nv_buffer.specs.declared.edit.ChangePart.{ChangePart}
use Rattle.nv_model.specs.Buffers.{Splice, Kept, ModelBuffer, text_after, text_of, kept_text}
use Rattle.nv_model.specs.Undoing.{splices_at}
use Rattle.nv_model.specs.Standing.{ArePartsMet, IsPartIn, is_made, text_before, text_met}
use Rattle.nv_model.proofs.PartsNext.{closed_low}

-- ---- texts and splices of numbers, once one more change is made
pub numbers_stay : (k : Kept) (first : List ℕ) (undo : Undo Kept) (n : ℕ) → n ≤ last undo → kept_text first (pushed k undo) n ≡ kept_text first undo n
numbers_stay k first undo n low =
    ap (λ (o : Option (ℕ × Kept)). option_map_or (λ (c : Kept). c.text) (option_map (λ (c : ℕ × Kept). c.1) o) first) (numbered-old k undo n low)

pub number_made : (k : Kept) (first : List ℕ) (undo : Undo Kept) → kept_text first (pushed k undo) (suc (last undo)) ≡ k.text
number_made k first undo =
    ap (λ (o : Option (ℕ × Kept)). option_map_or (λ (c : Kept). c.text) (option_map (λ (c : ℕ × Kept). c.1) o) first) (numbered-new k undo)

pub splices_stay : (k : Kept) (undo : Undo Kept) (n : ℕ) → n ≤ last undo → splices_at (pushed k undo) n ≡ splices_at undo n
splices_stay k undo n low =
    ap (λ (o : Option (ℕ × Kept)). option_map_or (λ (c : Kept). c.splices) (option_map (λ (c : ℕ × Kept). c.1) o) []) (numbered-old k undo n low)

pub splices_made : (k : Kept) (undo : Undo Kept) → splices_at (pushed k undo) (suc (last undo)) ≡ k.splices
splices_made k undo =
    ap (λ (o : Option (ℕ × Kept)). option_map_or (λ (c : Kept). c.splices) (option_map (λ (c : ℕ × Kept). c.1) o) []) (numbered-new k undo)

-- the numbers that one was made at
above-stay : (k : Kept) (undo : Undo Kept) → IsTree undo → (steps n : ℕ) → n ≤ last undo
    → ancestors_within steps (pushed k undo) n ≡ ancestors_within steps undo n
above-stay k undo tree zero n low = refl
above-stay k undo tree (suc steps) n low =
    ap (λ (o : Option ℕ). n ∷ option_map_or (ancestors_within steps (pushed k undo)) o []) (parent-old k undo n low)
    ∙ by_parent (parent_of undo n) refl (above-stay k undo tree steps)
  where
    by_parent : (o : Option ℕ) → parent_of undo n ≡ o
        → ((p : ℕ) → p ≤ last undo → ancestors_within steps (pushed k undo) p ≡ ancestors_within steps undo p)
        → n ∷ option_map_or (ancestors_within steps (pushed k undo)) o [] ≡ n ∷ option_map_or (ancestors_within steps undo) o []
    by_parent None is rest = refl
    by_parent (Some p) is rest =
        let below : p < n = tree.below n p is in
        ap (λ (l : List ℕ). n ∷ l) (rest p (omega arith))

module _ (k : Kept) (m : ModelBuffer) (k_is : k ≡ record { splices = m.unsealed; text = text_of m }) (tree : IsTree m.undo) (parts : ArePartsMet m) where
  abbrev sealed : ModelBuffer
  sealed = record m { undo = pushed k m.undo; unsealed = [] }

  made_is : splices_at (pushed k m.undo) (suc (last m.undo)) ≡ m.unsealed
  made_is = splices_made k m.undo ∙ ap (λ (x : Kept). x.splices) k_is

  known_still : (p : ChangePart) → IsPartIn m p → IsPartIn sealed p
  known_still p (inl low) =
      inl (subst (λ (ss : List Splice). p.part < length ss) (sym (splices_stay k m.undo p.change (closed_low m.undo p.change (omega arith)))) low)
  known_still p (inr (change, low)) =
      inl (subst (λ (n : ℕ). p.part < length (splices_at (pushed k m.undo) n)) (sym change)
      (subst (λ (ss : List Splice). p.part < length ss) (sym made_is) low))

  above : ancestors (pushed k m.undo) (suc (last m.undo)) ≡ suc (last m.undo) ∷ ancestors m.undo m.undo.current
  above =
      ancestors_step (pushed k m.undo) (suc (last m.undo)) m.undo.current (push_tree k m.undo tree) (parent-new k m.undo)
      ∙ ap (λ (l : List ℕ). suc (last m.undo) ∷ l) (above-stay k m.undo tree m.undo.current m.undo.current tree.within)

  -- of the change that is closed
  of_new : (p : ChangePart) → p.change ≡ suc (last m.undo) → p.part < length m.unsealed
      → text_met p [] m.first m.splices
      ≡ text_before m.first (pushed k m.undo) p.change
      (if has (ancestors (pushed k m.undo) (suc (last m.undo))) p.change then p.part else suc p.part)
  of_new p change low =
      let in_it : has (ancestors (pushed k m.undo) (suc (last m.undo))) p.change ≡ true =
      ap (has (ancestors (pushed k m.undo) (suc (last m.undo)))) change ∙ has_itself (pushed k m.undo) (suc (last m.undo)) in
      let parent : origin (pushed k m.undo) (suc (last m.undo)) ≡ m.undo.current = ap (λ (o : Option ℕ). unwrap_or o 0) (parent-new k m.undo) in
      parts.since p change low
      ∙ (λ i. fold text_after (sym (numbers_stay k m.first m.undo m.undo.current tree.within) i) (take p.part (sym made_is i)))
      ∙ (λ i. fold text_after (kept_text m.first (pushed k m.undo) (sym parent i)) (take p.part (splices_at (pushed k m.undo) (suc (last m.undo)))))
      ∙ ap (λ (n : ℕ). text_before m.first (pushed k m.undo) n p.part) (sym change)
      ∙ ap (λ (c : Bool). text_before m.first (pushed k m.undo) p.change (cond c p.part (suc p.part))) (sym in_it)

  -- of those before it
  of_old : (p : ChangePart) → p.change ≤ last m.undo → p.part < length (splices_at m.undo p.change) → is_made p m.splices ≡ true
      → text_met p [] m.first m.splices
      ≡ text_before m.first (pushed k m.undo) p.change
      (if has (ancestors (pushed k m.undo) (suc (last m.undo))) p.change then p.part else suc p.part)
  of_old p closed low made =
      let same : has (ancestors (pushed k m.undo) (suc (last m.undo))) p.change ≡ has (ancestors m.undo m.undo.current) p.change =
      ap (λ (l : List ℕ). has l p.change) above ∙ ap (λ (c : Bool). c || has (ancestors m.undo m.undo.current) p.change) (other p.change (last m.undo) closed) in
      let parent : origin (pushed k m.undo) p.change ≡ origin m.undo p.change = ap (λ (o : Option ℕ). unwrap_or o 0) (parent-old k m.undo p.change closed) in
      let base : kept_text m.first (pushed k m.undo) (origin (pushed k m.undo) p.change) ≡ kept_text m.first m.undo (origin m.undo p.change) =
      ap (kept_text m.first (pushed k m.undo)) parent ∙ numbers_stay k m.first m.undo (origin m.undo p.change) (origin_low (parent_of m.undo p.change) refl) in
      parts.changes p low made
      ∙ (λ i. fold text_after (sym base i) (take (cond (sym same i) p.part (suc p.part)) (sym (splices_stay k m.undo p.change closed) i)))
    where
      other : (a b : ℕ) → a ≤ b → eqb (suc b) a ≡ false
      other a b low = grind (arith, nat_tests)

      origin_low : (o : Option ℕ) → parent_of m.undo p.change ≡ o → unwrap_or o 0 ≤ last m.undo
      origin_low None is = omega arith
      origin_low (Some n) is = let below : n < p.change = tree.below p.change n is in omega arith

  changes_now : (p : ChangePart) → p.part < length (splices_at (pushed k m.undo) p.change) → is_made p m.splices ≡ true
      → text_met p [] m.first m.splices
      ≡ text_before m.first (pushed k m.undo) p.change
      (if has (ancestors (pushed k m.undo) (suc (last m.undo))) p.change then p.part else suc p.part)
  changes_now p low made = elim (cases_eq p.change (suc (last m.undo))) [
    | inl new ↦ of_new p new (subst (λ (ss : List Splice). p.part < length ss) (ap (splices_at (pushed k m.undo)) new ∙ made_is) low)
    | inr old ↦ (
        let within : p.change ≤ last (pushed k m.undo) = closed_low (pushed k m.undo) p.change (omega arith) in
        let closed : p.change ≤ last m.undo = omega (arith, within, old, last-pushed k m.undo) in
        of_old p closed (subst (λ (ss : List Splice). p.part < length ss) (splices_stay k m.undo p.change closed) low) made
        )
  ]

  pub parts_sealed : ArePartsMet sealed
  parts_sealed = record {
    known = All-weaker (λ (t : Splice). IsPartIn m t.part) (λ (t : Splice). IsPartIn sealed t.part) (λ t here. known_still t.part here) m.splices parts.known;
    changes = changes_now;
    since = λ p change low. absurd (omega arith);
  }
