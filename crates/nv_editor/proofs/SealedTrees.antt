-- The tree of changes that the undo commands find, as it is kept and as the model has it.
use Rattle.std.proofs.Common.{◌≡◌, ℕ, zero, suc, ◌+◌, List, [], ◌∷◌, ◌++◌, length, map, reverse, fold, flat_map, refl, ap, sym, ◌∙◌, length-append, arith, Option, Some, None}
use Rattle.std.specs.Prelude.{slice_set, option_map, unwrap_or}
use Rattle.std.specs.Option.{option_map_or}
use Rattle.nv_places.specs.Flat.{flat}
use Rattle.nv_undo.specs.Tree.{Undo, tree_of, IsTree, last, parent_of, pushed, ancestors_within, those_outside, path}
use Rattle.nv_undo.specs.Ways.{origin, undo_legs, redo_legs, legs_to}
use Rattle.nv_undo.specs.declared.legs.Leg.{Leg}
use Rattle.nv_undo.specs.declared.legs.Leg.TheVariants.{Back, Ahead}
use Rattle.nv_buffer.specs.Content.{Content, after_seal, after_seal_of}
use Rattle.nv_buffer.specs.Changes.{first_text, text_at, edits_of, leg_edits, lines_after}
use Rattle.nv_buffer.specs.declared.edit.Edit.{Edit}
use Rattle.nv_buffer.proofs.KeptTexts.{text_at-stays, text_at-pushed}
use Rattle.nv_buffer.proofs.WayBack.{length-inverses as inverse-count}
use Rattle.nv_model.specs.Buffers.{Splice, Kept, closed_with, kept_text}
use Rattle.nv_model.specs.Undoing.{splices_at, leg_splices}
use Rattle.nv_model.specs.Answers.{undo_splices}
use Rattle.nv_model.specs.Seen.{sealed_undo}
use Rattle.nv_model.specs.Standing.{splices_of, kept_change, kept_changes, kept_undo, seen_buffer_now}
use Rattle.nv_model.proofs.Sealing.{length-kept, kept-push, kept-stay, parents_low}
use Rattle.nv_model.proofs.Trees.{numbered-kept, parent-kept, length-splices, length-inverses}

-- ---- one more change
kept_pushed : (undo : Undo (List Edit)) (edits : List Edit) → IsTree undo
    → kept_undo (pushed edits undo)
    ≡ pushed (record {
      splices = splices_of (text_at undo undo.current) edits;
      text = flat (fold lines_after (text_at undo undo.current) edits);
    }) (kept_undo undo)
kept_pushed undo edits tree =
    let whole : Undo (List Edit) = pushed edits undo in
    let change : ℕ × List Edit = (undo.current, edits) in
    let kept : ℕ × Kept = (
      undo.current,
      record {
        splices = splices_of (text_at undo undo.current) edits;
        text = flat (fold lines_after (text_at undo undo.current) edits);
      },
    ) in
    let splices = ap (λ (t : List (List ℕ)). splices_of t edits) (text_at-stays undo edits undo.current tree.within) in
    let next : 1 + last undo ≡ suc (last undo) = omega arith in
    let text = ap (λ (n : ℕ). flat (text_at (pushed edits undo) n)) next ∙ ap flat (text_at-pushed undo edits) in
    let new : kept_change whole (1 + last undo) change ≡ kept = λ i. (undo.current, record { splices = splices i; text = text i }) in
    let all =
    kept-push whole 1 undo.changes change
    ∙ ap (λ (l : List (ℕ × Kept)). l ++ kept_change whole (1 + last undo) change ∷ []) (kept-stay undo edits 1 undo.changes (omega arith) (parents_low undo tree))
    ∙ ap (λ (c : ℕ × Kept). kept_changes undo 1 undo.changes ++ c ∷ []) new in
    let count : suc (last undo) ≡ suc (last (kept_undo undo)) = ap (λ n. suc n) (sym (length-kept undo 1 undo.changes)) in
    λ i. tree_of (all i) (count i) (slice_set undo.entered undo.current (count i) ++ 0 ∷ [])

-- the tree once the open change is closed
pub sealed_is : (c : Content) → IsTree c.undo → c.text ≡ fold lines_after (text_at c.undo c.undo.current) c.unsealed
    → kept_undo (after_seal c).undo ≡ sealed_undo (seen_buffer_now c)
sealed_is c tree now = by c.unsealed refl
  where
    by : (es : List Edit) → c.unsealed ≡ es
        → kept_undo (after_seal_of c es).undo ≡ closed_with (splices_of (text_at c.undo c.undo.current) es) (flat c.text) (kept_undo c.undo)
    by [] none = refl
    by (e ∷ es) some =
        kept_pushed c.undo (e ∷ es) tree
        ∙ ap (λ (t : List (List ℕ)).
        pushed (record { splices = splices_of (text_at c.undo c.undo.current) (e ∷ es); text = flat t }) (kept_undo c.undo))
        (sym (now ∙ ap (fold lines_after (text_at c.undo c.undo.current)) some))

-- ---- ways in it
ancestors-kept : (undo : Undo (List Edit)) (steps n : ℕ) → ancestors_within steps (kept_undo undo) n ≡ ancestors_within steps undo n
ancestors-kept undo zero n = refl
ancestors-kept undo (suc steps) n =
    ap (λ (o : Option ℕ). n ∷ option_map_or (ancestors_within steps (kept_undo undo)) o []) (parent-kept undo n)
    ∙ ap (λ (l : List ℕ). n ∷ l) (rest (parent_of undo n) (λ k. ancestors-kept undo steps k))
  where
    rest : (o : Option ℕ) → ((k : ℕ) → ancestors_within steps (kept_undo undo) k ≡ ancestors_within steps undo k)
        → option_map_or (ancestors_within steps (kept_undo undo)) o [] ≡ option_map_or (ancestors_within steps undo) o []
    rest None each = refl
    rest (Some k) each = each k

pub path-kept : (undo : Undo (List Edit)) (from to : ℕ) → path (kept_undo undo) from to ≡ path undo from to
path-kept undo from to =
    let up = ancestors-kept undo from from in
    let down = ancestors-kept undo to to in
    λ i. map (λ n. Back n) (those_outside (down i) (up i)) ++ map (λ n. Ahead n) (reverse (those_outside (up i) (down i)))

-- ---- how many splices
splices_count : (undo : Undo (List Edit)) (n : ℕ) → length (splices_at (kept_undo undo) n) ≡ length (edits_of undo n)
splices_count undo n =
    ap (λ (o : Option (ℕ × Kept)). length (option_map_or (λ (k : Kept). k.splices) (option_map (λ (c : ℕ × Kept). c.1) o) [])) (numbered-kept undo n)
    ∙ by _
  where
    by : (o : Option (ℕ × List Edit))
        → length (option_map_or (λ (k : Kept). k.splices) (option_map (λ (c : ℕ × Kept). c.1) (option_map (kept_change undo n) o)) [])
        ≡ length (unwrap_or (option_map (λ (c : ℕ × List Edit). c.1) o) [])
    by None = refl
    by (Some c) = length-splices (text_at undo c.0) c.1

leg_count : (undo : Undo (List Edit)) (leg : Leg) → length (leg_splices (flat first_text) (kept_undo undo) leg) ≡ length (leg_edits undo leg)
leg_count undo (Back n) =
    length-inverses (kept_text (flat first_text) (kept_undo undo) (origin (kept_undo undo) n)) (splices_at (kept_undo undo) n)
    ∙ splices_count undo n
    ∙ sym (inverse-count (text_at undo (origin undo n)) (edits_of undo n))
leg_count undo (Ahead n) = splices_count undo n

way_count : (undo : Undo (List Edit)) (legs : List Leg)
    → length (flat_map (leg_splices (flat first_text) (kept_undo undo)) legs) ≡ length (flat_map (leg_edits undo) legs)
way_count undo [] = refl
way_count undo (leg ∷ legs) =
    length-append (leg_splices (flat first_text) (kept_undo undo) leg) (flat_map (leg_splices (flat first_text) (kept_undo undo)) legs)
    ∙ (λ i. leg_count undo leg i + way_count undo legs i)
    ∙ sym (length-append (leg_edits undo leg) (flat_map (leg_edits undo) legs))

-- ---- of a buffer
module _ (c : Content) (tree : IsTree c.undo) (now : c.text ≡ fold lines_after (text_at c.undo c.undo.current) c.unsealed) where
  -- how many splices an undo command makes
  pub cost_is : (legs : List Leg) → length (flat_map (leg_edits (after_seal c).undo) legs) ≡ length (undo_splices (seen_buffer_now c) legs)
  cost_is legs =
      sym (way_count (after_seal c).undo legs)
      ∙ ap (λ (u : Undo Kept). length (flat_map (leg_splices (flat first_text) u) legs)) (sealed_is c tree now)

  -- the last number
  pub last_is : last (after_seal c).undo ≡ last (sealed_undo (seen_buffer_now c))
  last_is = sym (length-kept (after_seal c).undo 1 (after_seal c).undo.changes) ∙ ap (λ (u : Undo Kept). last u) (sealed_is c tree now)

  -- the legs of the three commands
  pub undo_legs_are : undo_legs (after_seal c).undo ≡ undo_legs (sealed_undo (seen_buffer_now c))
  undo_legs_are = ap (λ (u : Undo Kept). undo_legs u) (sealed_is c tree now)

  pub redo_legs_are : redo_legs (after_seal c).undo ≡ redo_legs (sealed_undo (seen_buffer_now c))
  redo_legs_are = ap (λ (u : Undo Kept). redo_legs u) (sealed_is c tree now)

  pub legs_to_are : (n : ℕ) → legs_to n (after_seal c).undo ≡ legs_to n (sealed_undo (seen_buffer_now c))
  legs_to_are n =
      sym (path-kept (after_seal c).undo (after_seal c).undo.current n) ∙ ap (λ (u : Undo Kept). legs_to n u) (sealed_is c tree now)
