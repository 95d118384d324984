-- Each call tells of the splices that it makes.
use Rattle.std.proofs.Common.{◌≡◌, ◌∙◌, refl, sym, ap, ℕ, ℤ, Bool, List, [], ◌∷◌, ◌++◌, map, Some}
use Rattle.std.specs.Prelude.{IfSome}
use Rattle.std.proofs.lemmas.List.Concat.{flat_map-append}
use Rattle.nv_args.specs.Arguments.{tree_list}
use Rattle.nv_args.specs.Table.{Signature, method_named}
use Rattle.nv_rpc.specs.Calls.{Call, request, notice}
use Rattle.nv_model.specs.Editors.{ModelEditor, handles_of}
use Rattle.nv_model.specs.Seen.{seen_of}
use Rattle.nv_model.specs.Operations.{Operation, sealed_in}
use Rattle.nv_model.specs.Answers.{Answer, Fact, refused, replied}
use Rattle.nv_model.specs.Rows.{Row}
use Rattle.nv_dispatch.specs.Calls.{row_of}
use Rattle.nv_dispatch.proofs.ByCalls.{OfAnswer, OfRow, HoldsByCalls, call_holds}
use Rattle.nv_dispatch.proofs.RowsMake.{if_some}
use Rattle.nv_history.specs.Worlds.{outcome_of_frame}
use Rattle.nv_world.specs.Steps.{splice_by, splices_by}
use Rattle.nv_world.specs.declared.step.Moved.{Moved}
use Rattle.nv_world.specs.inside.Splicing.{splice_told, splices_told}
use Rattle.nv_world.proofs.RowsSplice.{IsSpliceTold, SplicingRow, rows_splice}

-- in any editor
abbrev IsAny : ModelEditor → Type 0
IsAny m = Unit {0}

abbrev AreTold : ModelEditor → List Operation → List Fact → Bool → Type 0
AreTold m operations facts is_seen = splices_told facts ≡ splices_by operations

answer_told : (m : ModelEditor) (is_seen : Bool) (a : Answer) → IsSpliceTold a → OfAnswer AreTold m is_seen a
unfolding IsSpliceTold
answer_told m is_seen (refused f) h = tt
answer_told m is_seen (replied t cs fs) h = h

row_told : (is_seen : Bool) (row : Row) → SplicingRow row → OfRow IsAny AreTold is_seen row
row_told is_seen row h m any session args = answer_told m is_seen (row (seen_of m) session args) (h (seen_of m) session args)

rows_told : (name : List ℕ) (s : Signature) → method_named name ≡ Some s → IfSome (row_of s.method) (OfRow IsAny AreTold s.is_seen)
rows_told name s is = if_some SplicingRow (OfRow IsAny AreTold s.is_seen) (row_told s.is_seen) (row_of s.method) (rows_splice s.method)

both_told : (fs gs : List Fact) (cs ds : List Operation) → splices_told fs ≡ splices_by cs → splices_told gs ≡ splices_by ds → splices_told (fs ++ gs) ≡ splices_by (cs ++ ds)
both_told fs gs cs ds one other =
    flat_map-append splice_told fs gs
    ∙ ap (λ (l : List Moved). l ++ splices_told gs) one
    ∙ ap (λ (l : List Moved). splices_by cs ++ l) other
    ∙ sym (flat_map-append splice_by cs ds)

by_seals : (handles : List ℤ) → splices_by (map sealed_in handles) ≡ []
by_seals [] = refl
by_seals (n ∷ ns) = by_seals ns

calls_told : HoldsByCalls IsAny AreTold
calls_told = record {
  none = λ m is_seen any. refl;
  both = λ m cs ds fs gs a b any first more. both_told fs gs cs ds first (more tt);
  rows = rows_told;
  seals = λ m any. sym (by_seals (handles_of m.buffers));
}

-- a call of a session
pub frame_told : (m : ModelEditor) (s : ℕ) (call : Call) → splices_told (outcome_of_frame m s call).facts ≡ splices_by (outcome_of_frame m s call).operations
frame_told m s (request msgid name args) = call_holds IsAny AreTold calls_told m tt s name (tree_list args)
frame_told m s (notice name args) = call_holds IsAny AreTold calls_told m tt s name (tree_list args)
