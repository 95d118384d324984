-- Each call keeps handles numbered, and shows no buffer that isn't given yet.
use Rattle.std.proofs.Common.{◌≡◌, refl, sym, subst, ℕ, ℤ, Bool, true, List, [], ◌∷◌, ◌++◌, map, Some}
use Rattle.std.specs.Prelude.{IfSome}
use Rattle.std.specs.List.{list_all}
use Rattle.nv_args.specs.Arguments.{tree_list}
use Rattle.nv_args.specs.Table.{Signature, method_named}
use Rattle.nv_args.specs.declared.methods.Method.{Method}
use Rattle.nv_args.specs.declared.methods.Method.TheVariants.{Atomic, PassedOver, Buffer, Mark, Window, Ui}
use Rattle.nv_args.specs.declared.methods.BufferMethod.{BufferMethod}
use Rattle.nv_args.specs.declared.methods.MarkMethod.{MarkMethod}
use Rattle.nv_args.specs.declared.methods.WindowMethod.{WindowMethod}
use Rattle.nv_args.specs.declared.methods.UiMethod.{UiMethod}
use Rattle.nv_args.specs.declared.methods.BufferMethod.TheVariants.{Command, SetCurrentBuf, BufDelete}
use Rattle.nv_args.specs.declared.methods.MarkMethod.TheVariants.{SetHl}
use Rattle.nv_args.specs.declared.methods.WindowMethod.TheVariants.{OpenWin, WinSetBuf}
use Rattle.nv_args.specs.declared.methods.UiMethod.TheVariants.{UiAttach}
use Rattle.nv_rpc.specs.Calls.{Call, request, notice}
use Rattle.nv_model.specs.Editors.{ModelEditor, handles_of}
use Rattle.nv_model.specs.Seen.{seen_of}
use Rattle.nv_model.specs.Operations.{Operation, sealed_in, after_operations}
use Rattle.nv_model.specs.Answers.{Answer, Fact, refused, replied}
use Rattle.nv_model.specs.Kinds.{no_effects}
use Rattle.nv_model.specs.Rows.{Row}
use Rattle.nv_model.proofs.Gone.{all-append}
use Rattle.nv_api_buf.specs.Rows.{buffer_row, buffer_effects}
use Rattle.nv_api_buf.proofs.RowsMake.{buffer_makes}
use Rattle.nv_api_mark.specs.Rows.{mark_row, mark_effects}
use Rattle.nv_api_mark.proofs.RowsMake.{mark_makes}
use Rattle.nv_api_win.specs.WindowRows.{window_row, window_effects}
use Rattle.nv_api_win.proofs.RowsMake.{window_makes}
use Rattle.nv_api_ui.specs.UiRows.{ui_row, ui_effects}
use Rattle.nv_api_ui.proofs.RowsMake.{ui_makes}
use Rattle.nv_dispatch.specs.Calls.{editor_after, passed_over, row_of, seal_operations}
use Rattle.nv_dispatch.proofs.ByCalls.{OfAnswer, OfRow, HoldsByCalls, call_holds}
use Rattle.nv_dispatch.proofs.RowsMake.{passed_over_makes, if_some}
use Rattle.nv_history.specs.Worlds.{outcome_of_frame}
use Rattle.nv_history.proofs.RowKinds.{is_still}
use Rattle.nv_history.proofs.PlacedRows.{IsPlacedAfter, PlacedRow, by_still, nvim_command_placed, set_current_buf_placed, delete_buf_placed, open_win_placed, win_set_buf_placed}
use Rattle.nv_history.proofs.WindowBuffers.{AllStill, IsPlaced, still_placed}

-- ---- all rows; those that aren't named show no buffer
buffers_placed : (method : BufferMethod) → PlacedRow (buffer_row method)
buffers_placed Command = nvim_command_placed
buffers_placed SetCurrentBuf = set_current_buf_placed
buffers_placed BufDelete = delete_buf_placed
buffers_placed method = by_still (buffer_effects method) (buffer_row method) refl (buffer_makes method)

marks_still : (method : MarkMethod) → list_all is_still (mark_effects method).makes ≡ true
marks_still SetHl = refl
marks_still method = refl

windows_placed : (method : WindowMethod) → PlacedRow (window_row method)
windows_placed OpenWin = open_win_placed
windows_placed WinSetBuf = win_set_buf_placed
windows_placed method = by_still (window_effects method) (window_row method) refl (window_makes method)

uis_still : (method : UiMethod) → list_all is_still (ui_effects method).makes ≡ true
uis_still UiAttach = refl
uis_still method = refl

rows_placed : (method : Method) → IfSome (row_of method) PlacedRow
unfolding row_of
rows_placed Atomic = tt
rows_placed PassedOver = by_still no_effects passed_over refl passed_over_makes
rows_placed (Buffer method) = buffers_placed method
rows_placed (Mark method) = by_still (mark_effects method) (mark_row method) (marks_still method) (mark_makes method)
rows_placed (Window method) = windows_placed method
rows_placed (Ui method) = by_still (ui_effects method) (ui_row method) (uis_still method) (ui_makes method)

-- ---- all calls
abbrev Leaves : ModelEditor → List Operation → List Fact → Bool → Type 0
Leaves m operations facts is_seen = IsPlaced (after_operations operations m)

answer_leaves : (m : ModelEditor) (is_seen : Bool) (a : Answer) → IsPlacedAfter m a → OfAnswer Leaves m is_seen a
unfolding IsPlacedAfter
answer_leaves m is_seen (refused f) h = tt
answer_leaves m is_seen (replied t cs fs) h = h

row_leaves : (is_seen : Bool) (row : Row) → PlacedRow row → OfRow IsPlaced Leaves is_seen row
row_leaves is_seen row h m placed session args = answer_leaves m is_seen (row (seen_of m) session args) (h m placed session args)

rows_leave : (name : List ℕ) (s : Signature) → method_named name ≡ Some s → IfSome (row_of s.method) (OfRow IsPlaced Leaves s.is_seen)
rows_leave name s is = if_some PlacedRow (OfRow IsPlaced Leaves s.is_seen) (row_leaves s.is_seen) (row_of s.method) (rows_placed s.method)

both_placed : (m : ModelEditor) (cs ds : List Operation) → IsPlaced (after_operations ds (after_operations cs m)) → IsPlaced (after_operations (cs ++ ds) m)
both_placed m cs ds h = subst (λ (e : ModelEditor). IsPlaced e) (sym (all-append cs ds m)) h

seals_still : (handles : List ℤ) → AllStill (map sealed_in handles)
seals_still [] = tt
seals_still (n ∷ ns) = (tt, seals_still ns)

calls_placed : HoldsByCalls IsPlaced Leaves
calls_placed = record {
  none = λ m is_seen placed. placed;
  both = λ m cs ds fs gs a b placed first more. both_placed m cs ds (more first);
  rows = rows_leave;
  seals = λ m placed. still_placed (seal_operations m) m (seals_still (handles_of m.buffers)) placed;
}

-- a call of a session
pub frame_placed : (m : ModelEditor) → IsPlaced m → (s : ℕ) (call : Call) → IsPlaced (editor_after m (outcome_of_frame m s call))
frame_placed m placed s (request msgid name args) = call_holds IsPlaced Leaves calls_placed m placed s name (tree_list args)
frame_placed m placed s (notice name args) = call_holds IsPlaced Leaves calls_placed m placed s name (tree_list args)
