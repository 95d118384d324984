-- Each call keeps windows sound, and the screen at the least size of the UIs.
use Rattle.std.proofs.Common.{◌≡◌, refl, sym, subst, ℕ, ℤ, Bool, true, List, [], ◌∷◌, ◌++◌, map, Some}
use Rattle.std.specs.Prelude.{IfSome}
use Rattle.std.specs.List.{list_all}
use Rattle.nv_args.specs.Arguments.{tree_list}
use Rattle.nv_args.specs.Table.{Signature, method_named}
use Rattle.nv_args.specs.declared.methods.Method.{Method}
use Rattle.nv_args.specs.declared.methods.Method.TheVariants.{Atomic, PassedOver, Buffer, Mark, Window, Ui}
use Rattle.nv_args.specs.declared.methods.BufferMethod.{BufferMethod}
use Rattle.nv_args.specs.declared.methods.MarkMethod.{MarkMethod}
use Rattle.nv_args.specs.declared.methods.WindowMethod.{WindowMethod}
use Rattle.nv_args.specs.declared.methods.UiMethod.{UiMethod}
use Rattle.nv_args.specs.declared.methods.BufferMethod.TheVariants.{Command}
use Rattle.nv_args.specs.declared.methods.MarkMethod.TheVariants.{SetHl}
use Rattle.nv_args.specs.declared.methods.WindowMethod.TheVariants.{SetCurrentWin, OpenWin, WinClose, SetCurrentTabpage}
use Rattle.nv_args.specs.declared.methods.UiMethod.TheVariants.{UiAttach, UiDetach, UiTryResize, UiSetOption}
use Rattle.nv_rpc.specs.Calls.{Call, request, notice}
use Rattle.nv_model.specs.Editors.{ModelEditor, handles_of}
use Rattle.nv_model.specs.Seen.{seen_of}
use Rattle.nv_model.specs.Operations.{Operation, sealed_in, after_operations}
use Rattle.nv_model.specs.Answers.{Answer, Fact, refused, replied}
use Rattle.nv_model.specs.Kinds.{no_effects}
use Rattle.nv_model.specs.Rows.{Row}
use Rattle.nv_model.proofs.Gone.{all-append}
use Rattle.nv_api_buf.specs.Rows.{buffer_row, buffer_effects}
use Rattle.nv_api_buf.proofs.RowsMake.{buffer_makes}
use Rattle.nv_api_mark.specs.Rows.{mark_row, mark_effects}
use Rattle.nv_api_mark.proofs.RowsMake.{mark_makes}
use Rattle.nv_api_win.specs.WindowRows.{window_row, window_effects}
use Rattle.nv_api_win.proofs.RowsMake.{window_makes}
use Rattle.nv_api_ui.specs.UiRows.{ui_row, ui_effects}
use Rattle.nv_api_ui.proofs.RowsMake.{ui_makes}
use Rattle.nv_dispatch.specs.Calls.{editor_after, passed_over, row_of, seal_operations}
use Rattle.nv_dispatch.proofs.ByCalls.{OfAnswer, OfRow, HoldsByCalls, call_holds}
use Rattle.nv_dispatch.proofs.RowsMake.{passed_over_makes, if_some}
use Rattle.nv_history.specs.Worlds.{outcome_of_frame}
use Rattle.nv_history.proofs.RowKinds.{is_harmless}
use Rattle.nv_history.proofs.SafeRows.{IsSafe, SafeRow, by_harmless, nvim_command_safe, set_current_win_safe, open_win_safe, win_close_safe, set_current_tabpage_safe, ui_attach_safe, ui_detach_safe, ui_try_resize_safe, ui_set_option_safe}
use Rattle.nv_history.proofs.SafeStages.{IsSafeStage, AllHarmless, all_harmless_safe}

-- ---- all rows; those that aren't named leave tabpages, trees and UIs
buffers_safe : (method : BufferMethod) → SafeRow (buffer_row method)
buffers_safe Command = nvim_command_safe
buffers_safe method = by_harmless (buffer_effects method) (buffer_row method) refl (buffer_makes method)

marks_harmless : (method : MarkMethod) → list_all is_harmless (mark_effects method).makes ≡ true
marks_harmless SetHl = refl
marks_harmless method = refl

windows_safe : (method : WindowMethod) → SafeRow (window_row method)
windows_safe SetCurrentWin = set_current_win_safe
windows_safe OpenWin = open_win_safe
windows_safe WinClose = win_close_safe
windows_safe SetCurrentTabpage = set_current_tabpage_safe
windows_safe method = by_harmless (window_effects method) (window_row method) refl (window_makes method)

uis_safe : (method : UiMethod) → SafeRow (ui_row method)
uis_safe UiAttach = ui_attach_safe
uis_safe UiDetach = ui_detach_safe
uis_safe UiTryResize = ui_try_resize_safe
uis_safe UiSetOption = ui_set_option_safe
uis_safe method = by_harmless (ui_effects method) (ui_row method) refl (ui_makes method)

rows_safe : (method : Method) → IfSome (row_of method) SafeRow
unfolding row_of
rows_safe Atomic = tt
rows_safe PassedOver = by_harmless no_effects passed_over refl passed_over_makes
rows_safe (Buffer method) = buffers_safe method
rows_safe (Mark method) = by_harmless (mark_effects method) (mark_row method) (marks_harmless method) (mark_makes method)
rows_safe (Window method) = windows_safe method
rows_safe (Ui method) = uis_safe method

-- ---- all calls
abbrev HasSafeStage : ModelEditor → Type 0
HasSafeStage m = IsSafeStage m.stage

abbrev Leaves : ModelEditor → List Operation → List Fact → Bool → Type 0
Leaves m operations facts is_seen = IsSafeStage (after_operations operations m).stage

answer_leaves : (m : ModelEditor) (is_seen : Bool) (a : Answer) → IsSafe m a → OfAnswer Leaves m is_seen a
unfolding IsSafe
answer_leaves m is_seen (refused f) h = tt
answer_leaves m is_seen (replied t cs fs) h = h

row_leaves : (is_seen : Bool) (row : Row) → SafeRow row → OfRow HasSafeStage Leaves is_seen row
row_leaves is_seen row h m safe session args = answer_leaves m is_seen (row (seen_of m) session args) (h m safe session args)

rows_leave : (name : List ℕ) (s : Signature) → method_named name ≡ Some s → IfSome (row_of s.method) (OfRow HasSafeStage Leaves s.is_seen)
rows_leave name s is = if_some SafeRow (OfRow HasSafeStage Leaves s.is_seen) (row_leaves s.is_seen) (row_of s.method) (rows_safe s.method)

both_safe : (m : ModelEditor) (cs ds : List Operation) → IsSafeStage (after_operations ds (after_operations cs m)).stage → IsSafeStage (after_operations (cs ++ ds) m).stage
both_safe m cs ds h = subst (λ (e : ModelEditor). IsSafeStage e.stage) (sym (all-append cs ds m)) h

seals_harmless : (handles : List ℤ) → AllHarmless (map sealed_in handles)
seals_harmless [] = tt
seals_harmless (n ∷ ns) = (tt, seals_harmless ns)

calls_safe : HoldsByCalls HasSafeStage Leaves
calls_safe = record {
  none = λ m is_seen safe. safe;
  both = λ m cs ds fs gs a b safe first more. both_safe m cs ds (more first);
  rows = rows_leave;
  seals = λ m safe. all_harmless_safe (seal_operations m) (seals_harmless (handles_of m.buffers)) m safe;
}

-- a call of a session
pub frame_safe : (m : ModelEditor) → IsSafeStage m.stage → (s : ℕ) (call : Call) → IsSafeStage (editor_after m (outcome_of_frame m s call)).stage
frame_safe m safe s (request msgid name args) = call_holds HasSafeStage Leaves calls_safe m safe s name (tree_list args)
frame_safe m safe s (notice name args) = call_holds HasSafeStage Leaves calls_safe m safe s name (tree_list args)
