-- The tree of changes as it is kept, and as the model keeps it.
use Rattle.std.proofs.Common.{◌≡◌, ℕ, zero, suc, ◌+◌, ◌<◌, ◌≤◌, List, [], ◌∷◌, length, fold, slice_get, refl, ap, sym, ◌∙◌, length-append, arith, All, subst, Option, Some, None}
use Rattle.std.specs.Prelude.{option_map, unwrap_or}
use Rattle.std.specs.Option.{option_map_or}
use Rattle.std.proofs.lemmas.List.Elements.{All-nil, All-cons}
use Rattle.nv_places.specs.Flat.{flat, IsLine}
use Rattle.nv_undo.specs.Tree.{Undo, IsTree, last, numbered, parent_of, change_of, tree_after_leg}
use Rattle.nv_undo.specs.declared.legs.Leg.{Leg}
use Rattle.nv_undo.specs.declared.legs.Leg.TheVariants.{Back, Ahead}
use Rattle.nv_undo.proofs.NumberLemmas.{some_numbered, within_numbered, parent_some}
use Rattle.nv_buffer.specs.Changes.{text_at, first_text, edits_of, leg_edits, lines_after, inverse_edits}
use Rattle.nv_undo.specs.Ways.{origin, IsNext}
use Rattle.nv_buffer.specs.declared.edit.Edit.{Edit}
use Rattle.nv_buffer.proofs.KeptTexts.{text_at-first, text_at-change}
use Rattle.nv_model.specs.Buffers.{Splice, Kept, text_after, inverse_splice, inverse_splices, kept_text}
use Rattle.nv_model.specs.Undoing.{splices_at, leg_splices}
use Rattle.nv_model.specs.Standing.{splices_of, kept_change, kept_changes, kept_undo, AreEditsOf, IsChangeOf}
use Rattle.nv_model.proofs.Edits.{way_back, lines-edits}

-- ---- what stands at a number
get-kept : (undo : Undo (List Edit)) (n : ℕ) (cs : List (ℕ × List Edit)) (i : ℕ)
    → slice_get (kept_changes undo n cs) i ≡ option_map (kept_change undo (n + i)) (slice_get cs i)
get-kept undo n [] i = refl
get-kept undo n (c ∷ cs) zero = ap (λ (k : ℕ). Some (kept_change undo k c)) (omega arith)
get-kept undo n (c ∷ cs) (suc i) =
    get-kept undo (suc n) cs i ∙ ap (λ (k : ℕ). option_map (kept_change undo k) (slice_get cs i)) (omega arith)

pub numbered-kept : (undo : Undo (List Edit)) (n : ℕ) → numbered (kept_undo undo) n ≡ option_map (kept_change undo n) (numbered undo n)
numbered-kept undo zero = refl
numbered-kept undo (suc i) =
    get-kept undo 1 undo.changes i ∙ ap (λ (k : ℕ). option_map (kept_change undo k) (slice_get undo.changes i)) (omega arith)

pub parent-kept : (undo : Undo (List Edit)) (n : ℕ) → parent_of (kept_undo undo) n ≡ parent_of undo n
parent-kept undo n = ap (option_map (λ (c : ℕ × Kept). c.0)) (numbered-kept undo n) ∙ by_case (numbered undo n)
  where
    by_case : (o : Option (ℕ × List Edit)) → option_map (λ (c : ℕ × Kept). c.0) (option_map (kept_change undo n) o) ≡ option_map (λ (c : ℕ × List Edit). c.0) o
    by_case None = refl
    by_case (Some c) = refl

-- the text of a number
pub text-kept : (undo : Undo (List Edit)) (n : ℕ) → n ≤ last undo → kept_text (flat first_text) (kept_undo undo) n ≡ flat (text_at undo n)
text-kept undo zero low = ap flat (sym (text_at-first undo))
text-kept undo (suc i) low =
    let here = some_numbered undo (suc i) (omega arith) low in
    ap (λ (o : Option (ℕ × Kept)). option_map_or (λ (k : Kept). k.text) (option_map (λ (c : ℕ × Kept). c.1) o) (flat first_text)) (numbered-kept undo (suc i) ∙ ap (option_map (kept_change undo (suc i))) here.1)

-- each text is one of lines
lines-below : (undo : Undo (List Edit)) → IsTree undo
    → ((n : ℕ) (es : List Edit) → change_of undo n ≡ Some es → IsChangeOf (text_at undo (origin undo n)) es)
    → (bound n : ℕ) → n < bound → n ≤ last undo → All IsLine (text_at undo n)
lines-below undo tree changes zero n low within = absurd (omega arith)
lines-below undo tree changes (suc bound) zero low within =
    subst (λ (t : List (List ℕ)). All IsLine t) (sym (text_at-first undo)) (All-cons IsLine [] [] (All-nil _) (All-nil IsLine))
lines-below undo tree changes (suc bound) (suc i) low within =
    let here = some_numbered undo (suc i) (omega arith) within in
    let change : change_of undo (suc i) ≡ Some here.0.1 = ap (option_map (λ (c : ℕ × List Edit). c.1)) here.1 in
    let parent : origin undo (suc i) ≡ here.0.0 = ap (λ (o : Option (ℕ × List Edit)). unwrap_or (option_map (λ c. c.0) o) 0) here.1 in
    let below : here.0.0 < suc i = tree.below (suc i) here.0.0 (ap (option_map (λ (c : ℕ × List Edit). c.0)) here.1) in
    subst (λ (t : List (List ℕ)). All IsLine t) (sym (text_at-change undo (suc i) here.0.1 tree change))
    (lines-edits (text_at undo (origin undo (suc i))) here.0.1
    (lines-below undo tree changes bound (origin undo (suc i)) (omega arith) (omega arith))
    (changes (suc i) here.0.1 change).edits)

-- ---- a leg
pub record IsLeg (undo : Undo (List Edit)) (leg : Leg) : Type 0 where
  pub edits : AreEditsOf (text_at undo undo.current) (leg_edits undo leg)
  pub text : fold lines_after (text_at undo undo.current) (leg_edits undo leg) ≡ text_at undo (tree_after_leg leg undo).current
  pub splices : splices_of (text_at undo undo.current) (leg_edits undo leg) ≡ leg_splices (flat first_text) (kept_undo undo) leg
  pub some : 0 < length (splices_of (text_at undo undo.current) (leg_edits undo leg))
  pub within : (tree_after_leg leg undo).current ≤ last undo

pub length-splices : (t : List (List ℕ)) (es : List Edit) → length (splices_of t es) ≡ length es
length-splices t [] = refl
length-splices t (e ∷ es) = ap (λ n. suc n) (length-splices (lines_after t e) es)

pub length-inverses : (text : List ℕ) (ss : List Splice) → length (inverse_splices text ss) ≡ length ss
length-inverses text [] = refl
length-inverses text (s ∷ ss) =
    omega (arith, length-inverses (text_after text s) ss, length-append (inverse_splices (text_after text s) ss) (inverse_splice text s ∷ []))

-- what stands at a number that a leg speaks of
pub record IsAt (undo : Undo (List Edit)) (n : ℕ) (c : ℕ × List Edit) : Type 0 where
  pub edits : edits_of undo n ≡ c.1
  pub parent : origin undo n ≡ c.0
  pub splices : splices_at (kept_undo undo) n ≡ splices_of (text_at undo c.0) c.1
  pub kept_parent : unwrap_or (parent_of (kept_undo undo) n) 0 ≡ c.0

pub is_at : (undo : Undo (List Edit)) (n : ℕ) (c : ℕ × List Edit) → numbered undo n ≡ Some c → IsAt undo n c
is_at undo n c here = record {
  edits = ap (λ (o : Option (ℕ × List Edit)). unwrap_or (option_map (λ d. d.1) o) []) here;
  parent = ap (λ (o : Option (ℕ × List Edit)). unwrap_or (option_map (λ d. d.0) o) 0) here;
  splices =
      ap (λ (o : Option (ℕ × Kept)). option_map_or (λ (k : Kept). k.splices) (option_map (λ (d : ℕ × Kept). d.1) o) [])
      (numbered-kept undo n ∙ ap (option_map (kept_change undo n)) here);
  kept_parent =
      ap (λ (o : Option (ℕ × Kept)). unwrap_or (option_map (λ (d : ℕ × Kept). d.0) o) 0)
      (numbered-kept undo n ∙ ap (option_map (kept_change undo n)) here);
}

module _ (undo : Undo (List Edit)) (tree : IsTree undo)
    (changes : (n : ℕ) (es : List Edit) → change_of undo n ≡ Some es → IsChangeOf (text_at undo (origin undo n)) es) where
  -- ahead, to a child of the current number
  leg_ahead : (n : ℕ) (c : ℕ × List Edit) → numbered undo n ≡ Some c → c.0 ≡ undo.current → IsLeg undo (Ahead n)
  leg_ahead n c here parent =
      let at = is_at undo n c here in
      let change : change_of undo n ≡ Some c.1 = ap (option_map (λ (d : ℕ × List Edit). d.1)) here in
      let start : text_at undo (origin undo n) ≡ text_at undo undo.current = ap (text_at undo) (at.parent ∙ parent) in
      let made = changes n c.1 change in
      let are : AreEditsOf (text_at undo undo.current) c.1 = subst (λ (t : List (List ℕ)). AreEditsOf t c.1) start made.edits in
      record {
        edits = subst (λ (es : List Edit). AreEditsOf (text_at undo undo.current) es) (sym at.edits) are;
        text =
            ap (λ (es : List Edit). fold lines_after (text_at undo undo.current) es) at.edits
            ∙ ap (λ (t : List (List ℕ)). fold lines_after t c.1) (sym start)
            ∙ sym (text_at-change undo n c.1 tree change);
        splices =
            ap (splices_of (text_at undo undo.current)) at.edits
            ∙ ap (λ (k : ℕ). splices_of (text_at undo k) c.1) (sym parent)
            ∙ sym at.splices;
        some =
            subst (λ (es : List Edit). 0 < length (splices_of (text_at undo undo.current) es)) (sym at.edits)
            (omega (arith, made.some, length-splices (text_at undo undo.current) c.1));
        within = (within_numbered undo n c here).1;
      }

  -- back, from the current number
  leg_back : (c : ℕ × List Edit) → numbered undo undo.current ≡ Some c → IsLeg undo (Back undo.current)
  leg_back c here =
      let n : ℕ = undo.current in
      let at = is_at undo undo.current c here in
      let change : change_of undo undo.current ≡ Some c.1 = ap (option_map (λ (d : ℕ × List Edit). d.1)) here in
      let made = changes undo.current c.1 change in
      let below : c.0 < undo.current = tree.below undo.current c.0 (ap (option_map (λ (d : ℕ × List Edit). d.0)) here) in
      let within : undo.current ≤ last undo = tree.within in
      let start : text_at undo (origin undo undo.current) ≡ text_at undo c.0 = ap (text_at undo) at.parent in
      let are : AreEditsOf (text_at undo c.0) c.1 = subst (λ (t : List (List ℕ)). AreEditsOf t c.1) start made.edits in
      let lines : All IsLine (text_at undo c.0) = lines-below undo tree changes (suc c.0) c.0 (omega arith) (omega arith) in
      let back = way_back (text_at undo c.0) c.1 lines are in
      let now : text_at undo undo.current ≡ fold lines_after (text_at undo c.0) c.1 =
      text_at-change undo undo.current c.1 tree change ∙ ap (λ (t : List (List ℕ)). fold lines_after t c.1) start in
      let legs : leg_edits undo (Back undo.current) ≡ inverse_edits (text_at undo c.0) c.1 =
      λ i. inverse_edits (start i) (at.edits i) in
      let target : (tree_after_leg (Back undo.current) undo).current ≡ c.0 =
      ap (λ (o : Option (ℕ × List Edit)). unwrap_or (option_map (λ d. d.0) o) undo.current) here in
      let splices : splices_of (text_at undo undo.current) (leg_edits undo (Back undo.current)) ≡ inverse_splices (flat (text_at undo c.0)) (splices_of (text_at undo c.0) c.1) =
      (λ i. splices_of (now i) (legs i)) ∙ back.splices in
      record {
        edits =
            subst (λ (t : List (List ℕ)). AreEditsOf t (leg_edits undo (Back undo.current))) (sym now)
            (subst (λ (es : List Edit). AreEditsOf (fold lines_after (text_at undo c.0) c.1) es) (sym legs) back.edits);
        text = (λ i. fold lines_after (now i) (legs i)) ∙ back.text ∙ ap (text_at undo) (sym target);
        splices =
            splices
            ∙ ap (λ (bs : List ℕ). inverse_splices bs (splices_of (text_at undo c.0) c.1)) (sym (text-kept undo c.0 (omega arith)) ∙ ap (kept_text (flat first_text) (kept_undo undo)) (sym at.kept_parent))
            ∙ ap (inverse_splices (kept_text (flat first_text) (kept_undo undo) (unwrap_or (parent_of (kept_undo undo) undo.current) 0))) (sym at.splices);
        some =
            subst (λ (ss : List Splice). 0 < length ss) (sym splices)
            (omega (arith, made.some, length-inverses (flat (text_at undo c.0)) (splices_of (text_at undo c.0) c.1), length-splices (text_at undo c.0) c.1));
        within = subst (λ (k : ℕ). k ≤ last undo) (sym target) (omega arith);
      }

  pub leg_is : (leg : Leg) → IsNext undo leg → IsLeg undo leg
  leg_is (Back n) next =
      let here = some_numbered undo undo.current (omega (arith, next.0, next.1)) tree.within in
      subst (λ (k : ℕ). IsLeg undo (Back k)) (sym next.0) (leg_back here.0 here.1)
  leg_is (Ahead n) next =
      let here = parent_some undo n undo.current next in leg_ahead n here.0 here.1 here.2

  pub lines-at : (n : ℕ) → n ≤ last undo → All IsLine (text_at undo n)
  lines-at n within = lines-below undo tree changes (suc n) n (omega arith) within
