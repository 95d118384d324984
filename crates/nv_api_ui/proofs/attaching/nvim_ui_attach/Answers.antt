use Rattle.std.proofs.Common.{◌≡◌, ◌∙◌, sym, ap, map, Some, None}
use Rattle.nv_value.specs.View.{pair_content}
use Rattle.nv_args.specs.Args.{typed_arguments}
use Rattle.nv_args.specs.Arguments.{last_pairs}
use Rattle.nv_args.specs.Faults.{out_of_bounds}
use Rattle.nv_args.specs.Maps.{map_fault}
use Rattle.nv_args.specs.Reading.{pairs_at}
use Rattle.nv_api_ui.specs.UiOptions.{attached_ui, ui_keys}
use Rattle.nv_api_ui.specs.UiRows.{attaching_answer, sized_ui}
use Rattle.nv_editor.proofs.Giving.{gives_on}
use Rattle.nv_api_ui.proofs.Giving.{found_is, no_fault}
use Rattle.nv_api_ui.proofs.attaching.nvim_ui_attach.Goals as goal

pub returns-clause-row : goal.returns-clause-row
returns-clause-row c = record {
  given = λ told.
      let stage = c.args.editor.now.stage in
      let args = typed_arguments c.args.args.now in
      let pairs = last_pairs (pairs_at args 2) in
      let ui = c.in-Some.ui in
      let given : last_pairs (map pair_content c.pairs-pairs.result.now) ≡ pairs = ap last_pairs c.pairs-pairs.ensures in
      let none : map_fault ui_keys pairs ≡ None = ap (map_fault ui_keys) (sym given) ∙ c.in_ok-check_options.ensures in
      let found : sized_ui args (attached_ui c.args.session pairs) ≡ Some ui =
      sym (c.sized_ui.ensures.ui ∙ ap (sized_ui args) (c.attached_ui.ensures ∙ ap (attached_ui c.args.session) given)) ∙ c.in-Some.is in
      gives_on _ (attaching_answer stage ui) c.attach.result c.args.editor.now c.attach.new.editor told told
      (no_fault (map_fault ui_keys pairs) _ none ∙ found_is _ ui out_of_bounds (attaching_answer stage) found)
      (c.attach.ensures.row told);
}
