use Rattle.std.proofs.Common.{◌≡◌, ◌∙◌, sym, ap, Some}
use Rattle.nv_args.specs.Args.{typed_arguments}
use Rattle.nv_args.specs.Faults.{out_of_bounds}
use Rattle.nv_api_ui.specs.UiRows.{resizing_answer, sized_ui, ui_or_new}
use Rattle.nv_editor.proofs.Giving.{gives_on}
use Rattle.nv_api_ui.proofs.Giving.{found_is}
use Rattle.nv_api_ui.proofs.attaching.nvim_ui_try_resize.Goals as goal

pub returns-clause-row : goal.returns-clause-row
returns-clause-row c = record {
  given = λ told.
      let stage = c.args.editor.now.stage in
      let args = typed_arguments c.args.args.now in
      let ui = c.in-Some.ui in
      let found : sized_ui args (ui_or_new c.args.session stage.uis) ≡ Some ui =
      sym (c.sized_ui.ensures.ui ∙ ap (sized_ui args) (c.ui_or_new.ensures ∙ ap (ui_or_new c.args.session) c.uis.ensures.uis)) ∙ c.in-Some.is in
      gives_on _ (resizing_answer stage ui) c.resize.result c.args.editor.now c.resize.new.editor told told
      (found_is _ ui out_of_bounds (resizing_answer stage) found)
      (c.resize.ensures.row told);
}
