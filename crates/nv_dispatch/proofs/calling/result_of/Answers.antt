use Rattle.std.proofs.Common.{map, refl, subst, List, ℕ}
use Rattle.nv_value.specs.View.{content}
use Rattle.nv_value.specs.declared.value.Value.{Nil}
use Rattle.nv_value.proofs.Contents.{content-Nil}
use Rattle.nv_rpc.specs.declared.outcome.CallResult.TheVariants.{Value as Given}
use Rattle.nv_rpc.specs.declared.outcome.Outcome.TheVariants.{One}
use Rattle.nv_args.specs.Args.{typed_arguments}
use Rattle.nv_args.specs.Faults.{unknown_method}
use Rattle.nv_args.specs.Methods.{signature_of}
use Rattle.nv_args.specs.Refusals.{Refuses}
use Rattle.nv_args.specs.declared.methods.Method.TheVariants.{Buffer, Mark, Window, Ui}
use Rattle.nv_model.specs.Standing.{seen_now}
use Rattle.nv_api_buf.specs.Rows.{buffer_row}
use Rattle.nv_api_mark.specs.Rows.{mark_row}
use Rattle.nv_api_win.specs.WindowRows.{window_row}
use Rattle.nv_api_ui.specs.UiRows.{ui_row}
use Rattle.nv_dispatch.specs.Calls.{row_of}
use Rattle.nv_dispatch.proofs.RowLemmas.{by_row, by_fault, by_none, by_nothing}
use Rattle.nv_dispatch.proofs.calling.result_of.Goals as goal

pub returns-in-Atomic-clause-row : goal.returns-in-Atomic-clause-row
returns-in-Atomic-clause-row c =
    by_none (seen_now c.args.editor.now) c.args.session (signature_of c.args.signature.now) (map content c.args.params.now) c.unknown_method.result c.args.editor.now c.args.happened.now
    c.in-Atomic.is (subst (λ (name : List ℕ). Refuses c.unknown_method.result (unknown_method name)) c.as_bytes.ensures.value c.unknown_method.ensures)

pub returns-in-PassedOver-clause-row : goal.returns-in-PassedOver-clause-row
returns-in-PassedOver-clause-row c =
    by_nothing (seen_now c.args.editor.now) c.args.session (signature_of c.args.signature.now) (map content c.args.params.now) (One (Given Nil)) c.args.editor.now c.args.happened.now
    c.in-PassedOver.is content-Nil

pub returns-in_err-args-in-Buffer-clause-row : goal.returns-in_err-args-in-Buffer-clause-row
unfolding row_of
returns-in_err-args-in-Buffer-clause-row c =
    by_fault (seen_now c.args.editor.now) c.args.session (signature_of c.args.signature.now) (map content c.args.params.now) (Buffer c.in-Buffer.method) (buffer_row c.in-Buffer.method)
    c.in_err-args-in-Buffer.field-0.0 c.from_residual.result c.args.editor.now c.args.happened.now c.in-Buffer.is refl refl c.in_err-args-in-Buffer.ensures c.from_residual.ensures.1

pub returns-in_ok-args-in-Buffer-clause-row : goal.returns-in_ok-args-in-Buffer-clause-row
unfolding row_of
returns-in_ok-args-in-Buffer-clause-row c =
    by_row (seen_now c.args.editor.now) c.args.session (signature_of c.args.signature.now) (map content c.args.params.now) (Buffer c.in-Buffer.method) (buffer_row c.in-Buffer.method)
    (typed_arguments c.in_ok-args-in-Buffer.args) c.call.result c.args.editor.now c.call.new.editor c.args.happened.now c.call.new.happened c.in-Buffer.is refl c.in_ok-args-in-Buffer.ensures
    c.call.ensures.row

pub returns-in_err-args-in-Mark-clause-row : goal.returns-in_err-args-in-Mark-clause-row
unfolding row_of
returns-in_err-args-in-Mark-clause-row c =
    by_fault (seen_now c.args.editor.now) c.args.session (signature_of c.args.signature.now) (map content c.args.params.now) (Mark c.in-Mark.method) (mark_row c.in-Mark.method)
    c.in_err-args-in-Mark.field-0.0 c.from_residual-in_err-args-in-Mark.result c.args.editor.now c.args.happened.now c.in-Mark.is refl refl c.in_err-args-in-Mark.ensures c.from_residual-in_err-args-in-Mark.ensures.1

pub returns-in_ok-args-in-Mark-clause-row : goal.returns-in_ok-args-in-Mark-clause-row
unfolding row_of
returns-in_ok-args-in-Mark-clause-row c =
    by_row (seen_now c.args.editor.now) c.args.session (signature_of c.args.signature.now) (map content c.args.params.now) (Mark c.in-Mark.method) (mark_row c.in-Mark.method)
    (typed_arguments c.in_ok-args-in-Mark.args) c.call-in-Mark.result c.args.editor.now c.call-in-Mark.new.editor c.args.happened.now c.args.happened.now c.in-Mark.is refl c.in_ok-args-in-Mark.ensures
    (c.call-in-Mark.ensures.row c.args.session c.args.happened.now)

pub returns-in_err-args-in-Window-clause-row : goal.returns-in_err-args-in-Window-clause-row
unfolding row_of
returns-in_err-args-in-Window-clause-row c =
    by_fault (seen_now c.args.editor.now) c.args.session (signature_of c.args.signature.now) (map content c.args.params.now) (Window c.in-Window.method) (window_row c.in-Window.method)
    c.in_err-args-in-Window.field-0.0 c.from_residual-in_err-args-in-Window.result c.args.editor.now c.args.happened.now c.in-Window.is refl refl c.in_err-args-in-Window.ensures c.from_residual-in_err-args-in-Window.ensures.1

pub returns-in_ok-args-in-Window-clause-row : goal.returns-in_ok-args-in-Window-clause-row
unfolding row_of
returns-in_ok-args-in-Window-clause-row c =
    by_row (seen_now c.args.editor.now) c.args.session (signature_of c.args.signature.now) (map content c.args.params.now) (Window c.in-Window.method) (window_row c.in-Window.method)
    (typed_arguments c.in_ok-args-in-Window.args) c.call-in-Window.result c.args.editor.now c.call-in-Window.new.editor c.args.happened.now c.args.happened.now c.in-Window.is refl c.in_ok-args-in-Window.ensures
    (c.call-in-Window.ensures.row c.args.session c.args.happened.now)

pub returns-in_err-args-in-Ui-clause-row : goal.returns-in_err-args-in-Ui-clause-row
unfolding row_of
returns-in_err-args-in-Ui-clause-row c =
    by_fault (seen_now c.args.editor.now) c.args.session (signature_of c.args.signature.now) (map content c.args.params.now) (Ui c.in-Ui.method) (ui_row c.in-Ui.method)
    c.in_err-args-in-Ui.field-0.0 c.from_residual-in_err-args-in-Ui.result c.args.editor.now c.args.happened.now c.in-Ui.is refl refl c.in_err-args-in-Ui.ensures c.from_residual-in_err-args-in-Ui.ensures.1

pub returns-in_ok-args-in-Ui-clause-row : goal.returns-in_ok-args-in-Ui-clause-row
unfolding row_of
returns-in_ok-args-in-Ui-clause-row c =
    by_row (seen_now c.args.editor.now) c.args.session (signature_of c.args.signature.now) (map content c.args.params.now) (Ui c.in-Ui.method) (ui_row c.in-Ui.method)
    (typed_arguments c.in_ok-args-in-Ui.args) c.call-in-Ui.result c.args.editor.now c.call-in-Ui.new.editor c.args.happened.now c.args.happened.now c.in-Ui.is refl c.in_ok-args-in-Ui.ensures
    (c.call-in-Ui.ensures.row c.args.happened.now)
