-- An editor goes on standing for the model through the legs of an undo command.
use Rattle.std.proofs.Common.{◌≡◌, ◌≢◌, ℕ, ℤ, pos, List, [], ◌∷◌, ◌++◌, length, map, fold, flat_map, refl, ap, sym, ◌∙◌, arith, Bool, true, false, cond, subst, Option, Some, None, nat_abs}
use Rattle.std.specs.Prelude.{option_map}
use Rattle.std.specs.Ordering.{int_eq}
use Rattle.nv_places.specs.Flat.{flat}
use Rattle.nv_undo.specs.Tree.{Undo, tree_after_leg}
use Rattle.nv_undo.specs.Ways.{Leads}
use Rattle.nv_undo.specs.declared.legs.Leg.{Leg}
use Rattle.nv_buffer.specs.Content.{Content, after_leg, after_seal}
use Rattle.nv_buffer.specs.Changes.{first_text, leg_edits, lines_after}
use Rattle.nv_buffer.specs.declared.edit.Edit.{Edit}
use Rattle.nv_buffer.proofs.Going.{IsSealed, first_leg, way_edits-same}
use Rattle.nv_buffer.proofs.Keeping.{gone_changes}
use Rattle.nv_model.specs.Buffers.{Splice, Kept, ModelBuffer, with_seal}
use Rattle.nv_model.specs.Undoing.{leg_splices}
use Rattle.nv_model.specs.Editors.{ModelEditor, at_handle, updated_at, handles_of}
use Rattle.nv_model.specs.Keeping.{IsBufferUpdated, IsLegGone}
use Rattle.nv_model.specs.Operations.{Operation, stepped, spliced_back, with_buffer, after_operations}
use Rattle.nv_model.specs.Answers.{leg_operations}
use Rattle.nv_model.specs.Stage.{Stage, stage_with_views}
use Rattle.nv_model.specs.Standing.{PresentEditor, StandsFor, Both, Stands, kept_undo, splices_of}
use Rattle.nv_model.proofs.Changing.{buffer_update_is_kept}
use Rattle.nv_model.proofs.Gone.{all-append, editor_leg_is_kept}
use Rattle.nv_model.proofs.Lookups.{same_int, int_eq-itself, at_updated, handles-updated}
use Rattle.nv_model.proofs.Sealing.{seal_is_kept}
use Rattle.nv_windows.specs.declared.window.Window.{Window}
use Rattle.nv_editor.specs.inside.Kept.{AreKeptEdits}
use Rattle.nv_editor.specs.inside.Walks.{views_through, stage_through}
use Rattle.nv_editor.proofs.Ways.{IsLegOf, leg_of, leg_splices-gone, through_is, through-append}

-- ---- an editor on the way: one buffer is another one, with this stage
abbrev with_content : ℤ → Content → Stage → PresentEditor → PresentEditor
with_content n c stage e = record { buffers = updated_at n (λ (b : Content). c) e.buffers; stage = stage }

apart_handle : (n k : ℤ) → k ≢ n → int_eq n k ≡ false
apart_handle n k other = by (int_eq n k) refl
  where
    by : (t : Bool) → int_eq n k ≡ t → t ≡ false
    by true is = absurd (other (sym (same_int n k is)))
    by false is = refl

at_here : (n : ℤ) (b c : Content) (stage : Stage) (e : PresentEditor) → at_handle e.buffers n ≡ Some b
    → at_handle (with_content n c stage e).buffers n ≡ Some c
at_here n b c stage e there =
    at_updated n n (λ (x : Content). c) e.buffers
    ∙ ap (λ (t : Bool). cond t (option_map (λ (x : Content). c) (at_handle e.buffers n)) (at_handle e.buffers n)) (int_eq-itself n)
    ∙ ap (option_map (λ (x : Content). c)) there

at_others : (n : ℤ) (c : Content) (stage : Stage) (e : PresentEditor) (k : ℤ) → k ≢ n
    → at_handle (with_content n c stage e).buffers k ≡ at_handle e.buffers k
at_others n c stage e k other =
    at_updated n k (λ (x : Content). c) e.buffers
    ∙ ap (λ (t : Bool). cond t (option_map (λ (x : Content). c) (at_handle e.buffers k)) (at_handle e.buffers k)) (apart_handle n k other)

on_the_way : (n : ℤ) (b c : Content) (stage : Stage) (e : PresentEditor) → at_handle e.buffers n ≡ Some b
    → IsBufferUpdated e (with_content n c stage e) n b c
on_the_way n b c stage e there = record {
  was = there;
  becomes = at_here n b c stage e there;
  others = λ k other. at_others n c stage e k other;
  handles = handles-updated n (λ (x : Content). c) e.buffers;
}

from_the_way : (n : ℤ) (b c d : Content) (stage : Stage) (e later : PresentEditor) → IsBufferUpdated e later n b d
    → IsBufferUpdated (with_content n c stage e) later n c d
from_the_way n b c d stage e later is = record {
  was = at_here n b c stage e is.was;
  becomes = is.becomes;
  others = λ k other. is.others k other ∙ sym (at_others n c stage e k other);
  handles = is.handles ∙ sym (handles-updated n (λ (x : Content). c) e.buffers);
}

-- ---- the model's buffer
pub standing_at : (e : PresentEditor) (m : ModelEditor) (n : ℤ) (b : Content) → Stands e m → at_handle e.buffers n ≡ Some b
    → (x : ModelBuffer) × (at_handle m.buffers n ≡ Some x) × StandsFor b x
standing_at e m n b stands there =
    by (at_handle m.buffers n) refl (subst (λ (o : Option Content). Both StandsFor o (at_handle m.buffers n)) there (stands.buffers n))
  where
    by : (o : Option ModelBuffer) → at_handle m.buffers n ≡ o → Both StandsFor (Some b) o
        → (x : ModelBuffer) × (at_handle m.buffers n ≡ Some x) × StandsFor b x
    by None is both = absurd both
    by (Some x) is both = (x, is, both)

-- ---- legs
operations-gone : (n : ℤ) (leg : Leg) (legs : List Leg) (undo : Undo (List Edit))
    → flat_map (leg_operations n (flat first_text) (kept_undo (tree_after_leg leg undo))) legs
    ≡ flat_map (leg_operations n (flat first_text) (kept_undo undo)) legs
operations-gone n leg [] undo = refl
operations-gone n leg (next ∷ legs) undo = λ i.
    (map (spliced_back n) (leg_splices-gone leg next undo i) ++ stepped n next ∷ []) ++ operations-gone n leg legs undo i

-- nothing was done
nothing_done : (before later : PresentEditor) (n : ℤ) (b c : Content) (m : ModelEditor) → IsBufferUpdated before later n b c → c ≡ b
    → later.stage ≡ before.stage → Stands before m → Stands later m
nothing_done before later n b c m is same stage stands = record {
  buffers = λ k. by k (int_eq k n) refl;
  handles = is.handles ∙ stands.handles;
  stage = stage ∙ stands.stage;
}
  where
    at : (k : ℤ) (t : Bool) → int_eq k n ≡ t → at_handle later.buffers k ≡ at_handle before.buffers k
    at k true e =
        subst (λ (j : ℤ). at_handle later.buffers j ≡ at_handle before.buffers j) (sym (same_int k n e))
        (is.becomes ∙ ap (λ (x : Content). Some x) same ∙ sym is.was)
    at k false e = is.others k (λ (p : k ≡ n). both (subst (λ (j : ℤ). int_eq j n ≡ false) p e))
      where
        both : int_eq n n ≡ false → ⊥
        both apart = let here = sym (int_eq-itself n) ∙ apart in cc

    by : (k : ℤ) (t : Bool) → int_eq k n ≡ t → Both StandsFor (at_handle later.buffers k) (at_handle m.buffers k)
    by k t e = subst (λ (o : Option Content). Both StandsFor o (at_handle m.buffers k)) (sym (at k t e)) (stands.buffers k)

pub run_stands : (legs : List Leg) (before later : PresentEditor) (n : ℤ) (b c : Content) (to : ℕ) (m : ModelEditor)
    → IsBufferUpdated before later n b c → c ≡ fold after_leg b legs
    → IsSealed b → AreKeptEdits b → Leads b.undo b.undo.current legs to
    → later.stage ≡ stage_through n b.text (flat_map (leg_edits b.undo) legs) before.stage
    → Stands before m
    → Stands later (after_operations (flat_map (leg_operations n (flat first_text) (kept_undo b.undo)) legs) m)
run_stands [] before later n b c to m is gone sealed kept way stage stands = nothing_done before later n b c m is gone stage stands
run_stands (leg ∷ legs) before later n b c to m is gone sealed kept way stage stands =
    let first = first_leg b.undo leg legs to way in
    let here = leg_of b leg sealed kept first.0 in
    let mid_stage : Stage = stage_with_views n (flat b.text) (splices_of b.text (leg_edits b.undo leg)) before.stage in
    let mid : PresentEditor = with_content n (after_leg b leg) mid_stage before in
    let at = standing_at before m n b stands is.was in
    let once : Stands mid (after_operations (leg_operations n at.0.first at.0.undo leg) m) =
    editor_leg_is_kept before mid n b (after_leg b leg) leg m at.0 (on_the_way n b (after_leg b leg) mid_stage before is.was)
    (record { closed = sealed.1; next = first.0; content = refl }) refl at.1 stands in
    let named : leg_operations n at.0.first at.0.undo leg ≡ leg_operations n (flat first_text) (kept_undo b.undo) leg =
    λ i. leg_operations n (at.2.first i) (sym at.2.undo i) leg in
    let here_stands : Stands mid (after_operations (leg_operations n (flat first_text) (kept_undo b.undo) leg) m) =
    subst (λ (os : List Operation). Stands mid (after_operations os m)) named once in
    let same : flat_map (leg_edits (after_leg b leg).undo) legs ≡ flat_map (leg_edits b.undo) legs =
    way_edits-same (after_leg b leg).undo b.undo legs (gone_changes leg b.undo) in
    let moved : views_through n b.text (leg_edits b.undo leg ++ flat_map (leg_edits b.undo) legs) before.stage.workspace.windows
    ≡ views_through n (after_leg b leg).text (flat_map (leg_edits (after_leg b leg).undo) legs) mid_stage.workspace.windows =
    through-append n b.text (leg_edits b.undo leg) (flat_map (leg_edits b.undo) legs) before.stage.workspace.windows
    ∙ (λ i. views_through n (here.text i) (sym same i) (through_is n b.text (leg_edits b.undo leg) before.stage.workspace.windows here.lines here.edits i)) in
    let rest =
    run_stands legs mid later n (after_leg b leg) c to (after_operations (leg_operations n (flat first_text) (kept_undo b.undo) leg) m)
    (from_the_way n b (after_leg b leg) c mid_stage before later is) gone here.sealed here.kept first.1
    (stage ∙ ap (λ (ws : List Window). record before.stage { workspace = record before.stage.workspace { windows = ws } }) moved)
    here_stands in
    subst (λ (e : ModelEditor). Stands later e)
    (sym (all-append (leg_operations n (flat first_text) (kept_undo b.undo) leg) (flat_map (leg_operations n (flat first_text) (kept_undo b.undo)) legs) m))
    (subst (λ (os : List Operation). Stands later (after_operations os (after_operations (leg_operations n (flat first_text) (kept_undo b.undo) leg) m)))
    (operations-gone n leg legs b.undo) rest)

-- the open change is closed, and then the legs are gone
pub undo_stands : (legs : List Leg) (before later : PresentEditor) (n : ℤ) (b c : Content) (to : ℕ) (m : ModelEditor)
    → IsBufferUpdated before later n b c → c ≡ fold after_leg (after_seal b) legs
    → IsSealed (after_seal b) → AreKeptEdits (after_seal b) → Leads (after_seal b).undo (after_seal b).undo.current legs to
    → later.stage ≡ stage_through n (after_seal b).text (flat_map (leg_edits (after_seal b).undo) legs) before.stage
    → Stands before m
    → Stands later
    (after_operations (flat_map (leg_operations n (flat first_text) (kept_undo (after_seal b).undo)) legs) (with_buffer n with_seal m))
undo_stands legs before later n b c to m is gone sealed kept way stage stands =
    let mid : PresentEditor = with_content n (after_seal b) before.stage before in
    run_stands legs mid later n (after_seal b) c to (with_buffer n with_seal m)
    (from_the_way n b (after_seal b) c before.stage before later is) gone sealed kept way stage
    (buffer_update_is_kept before mid n b (after_seal b) with_seal m (on_the_way n b (after_seal b) before.stage before is.was) refl
    (λ x h. seal_is_kept b x h) stands)
