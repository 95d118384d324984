use Rattle.nv_args.specs.Args.{typed_arguments}
use Rattle.nv_model.specs.Standing.{seen_now}
use Rattle.nv_api_ui.specs.UiRows.{ui_row}
use Rattle.nv_api_ui.proofs.table.call.Goals as goal

pub returns : goal.returns
returns c = record {
  row = λ told. c.as_outcome.ensures.answer (ui_row c.args.method (seen_now c.args.editor.now) c.args.session (typed_arguments c.args.args.now)) c.args.editor.now c.value_given.new.editor told told (c.value_given.ensures.row.given told);
  spelled = c.as_outcome.ensures.spelled;
}
