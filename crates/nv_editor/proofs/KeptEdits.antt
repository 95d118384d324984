-- Each change of a buffer goes on being made of edits of its text.
use Rattle.std.proofs.Common.{◌≡◌, ℕ, ℤ, zero, suc, ◌<◌, List, [], ◌∷◌, ◌++◌, length, fold, refl, ap, sym, ◌∙◌, arith, Bool, subst, Option, Some, None}
use Rattle.std.specs.Prelude.{option_map, unwrap_or}
use Rattle.std.proofs.lemmas.Option.{none-some}
use Rattle.nv_undo.specs.Tree.{Undo, IsTree, numbered, change_of, no_changes, tree_after_leg}
use Rattle.nv_undo.specs.Ways.{origin}
use Rattle.nv_undo.specs.declared.legs.Leg.{Leg}
use Rattle.nv_undo.proofs.NumberLemmas.{numbered_same}
use Rattle.nv_buffer.specs.Content.{Content, fresh_content, after_seal, after_seal_of, after_leg}
use Rattle.nv_buffer.specs.Changes.{text_at, lines_after}
use Rattle.nv_buffer.specs.declared.edit.Edit.{Edit}
use Rattle.nv_buffer.specs.declared.buffer.Spliced.{Spliced}
use Rattle.nv_buffer.proofs.Keeping.{gone_changes}
use Rattle.nv_buffer.proofs.KeptTexts.{text_at-same}
use Rattle.nv_model.specs.Buffers.{Splice}
use Rattle.nv_model.specs.Keeping.{IsSpliced}
use Rattle.nv_model.specs.Standing.{AreEditsOf, IsChangeOf}
use Rattle.nv_model.proofs.Sealing.{edits_stay}
use Rattle.nv_model.proofs.BytesPut.{edits-push}
use Rattle.nv_model.proofs.Splicing.{edit_is}
use Rattle.nv_editor.specs.inside.Kept.{AreKeptEdits}

no_change : (n : ℕ) → change_of {E = List Edit} no_changes n ≡ None
no_change zero = refl
no_change (suc place) = refl

-- a fresh buffer has none
pub fresh_kept_edits : (handle : ℤ) (listed : Bool) → AreKeptEdits (fresh_content handle listed)
fresh_kept_edits handle listed = record { changes = λ n made is. absurd (none-some made (sym (no_change n) ∙ is)); edits = tt }

-- after a splice
pub splice_kept_edits : (b later : Content) (s : Splice) (event : Spliced) → IsSpliced b later s event
    → b.text ≡ fold lines_after (text_at b.undo b.undo.current) b.unsealed → AreKeptEdits b → AreKeptEdits later
splice_kept_edits b later s event sp now is =
    let next : AreKeptEdits (record b {
      text = later.text;
      tick = later.tick;
      modified = later.modified;
      marks = later.marks;
      kept = later.kept;
      unsealed = b.unsealed ++ event.edit ∷ [];
    }) = record {
      changes = is.changes;
      edits = edits-push (text_at b.undo b.undo.current) b.unsealed b.text event.edit now is.edits (edit_is b later s event sp);
    } in
    subst (λ (c : Content). AreKeptEdits c) (sym sp.edit.kept) next

-- after the open change is closed
pub seal_kept_edits : (b : Content) → IsTree b.undo → AreKeptEdits b → AreKeptEdits (after_seal b)
seal_kept_edits b tree is = by b.unsealed refl
  where
    by : (es : List Edit) → b.unsealed ≡ es → AreKeptEdits (after_seal_of b es)
    by [] none = is
    by (e ∷ es) some = record {
      changes =
          edits_stay b.undo (e ∷ es) tree is.changes
          (record { some = omega arith; edits = subst (λ (l : List Edit). AreEditsOf (text_at b.undo b.undo.current) l) some is.edits });
      edits = tt;
    }

-- with a leg gone in the tree
pub gone_kept_edits : (b c : Content) (leg : Leg) → c.undo ≡ tree_after_leg leg b.undo → c.unsealed ≡ [] → AreKeptEdits b → AreKeptEdits c
gone_kept_edits b c leg undo closed is =
    let same : c.undo.changes ≡ b.undo.changes = ap (λ (u : Undo (List Edit)). u.changes) undo ∙ gone_changes leg b.undo in
    record {
      changes = λ n es here.
          let number = numbered_same c.undo b.undo same n in
          let there : change_of b.undo n ≡ Some es = sym (ap (λ (o : Option (ℕ × List Edit)). option_map (λ d. d.1) o) number) ∙ here in
          let from : origin c.undo n ≡ origin b.undo n = ap (λ (o : Option (ℕ × List Edit)). unwrap_or (option_map (λ d. d.0) o) 0) number in
          subst (λ (t : List (List ℕ)). IsChangeOf t es)
          (sym (text_at-same c.undo b.undo (origin c.undo n) same ∙ ap (text_at b.undo) from))
          (is.changes n es there);
      edits = subst (λ (l : List Edit). AreEditsOf (text_at c.undo c.undo.current) l) (sym closed) tt;
    }

-- after a leg
pub leg_kept_edits : (b : Content) (leg : Leg) → b.unsealed ≡ [] → AreKeptEdits b → AreKeptEdits (after_leg b leg)
leg_kept_edits b leg closed is = gone_kept_edits b (after_leg b leg) leg refl closed is

-- where changes stay
pub same_kept_edits : (b c : Content) → c.undo ≡ b.undo → c.unsealed ≡ b.unsealed → AreKeptEdits b → AreKeptEdits c
same_kept_edits b c undo unsealed is =
    let changes = subst (λ (u : Undo (List Edit)). (n : ℕ) (made : List Edit) → change_of u n ≡ Some made → IsChangeOf (text_at u (origin u n)) made)
    (sym undo) is.changes in
    record {
      changes = changes;
      edits =
          subst (λ (l : List Edit). AreEditsOf (text_at c.undo c.undo.current) l) (sym unsealed)
          (subst (λ (u : Undo (List Edit)). AreEditsOf (text_at u u.current) b.unsealed) (sym undo) is.edits);
    }
