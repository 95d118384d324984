use Rattle.nv_args.specs.Args.{typed_arguments}
use Rattle.nv_model.specs.Standing.{seen_now}
use Rattle.nv_api_win.specs.WindowRows.{window_row}
use Rattle.nv_api_win.proofs.table.call.Goals as goal

pub returns : goal.returns
returns c = record {
  row = λ session told. c.as_outcome.ensures.answer (window_row c.args.method (seen_now c.args.editor.now) session (typed_arguments c.args.args.now)) c.args.editor.now c.value_given.new.editor told told (c.value_given.ensures.row.given session told);
  spelled = c.as_outcome.ensures.spelled;
}
