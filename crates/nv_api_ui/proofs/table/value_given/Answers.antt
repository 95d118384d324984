use Rattle.nv_args.specs.Args.{typed_arguments}
use Rattle.nv_args.specs.declared.methods.UiMethod.TheVariants.{Strwidth, ListUis, UiDetach}
use Rattle.nv_model.specs.Standing.{seen_now}
use Rattle.nv_editor.proofs.Giving.{gives_row, reads_row}
use Rattle.nv_api_ui.specs.UiRows.{ui_row}
use Rattle.nv_api_ui.proofs.table.value_given.Goals as goal

pub returns-in-Strwidth-clause-row : goal.returns-in-Strwidth-clause-row
returns-in-Strwidth-clause-row c = record {
  given = λ told.
      reads_row ui_row c.args.method Strwidth c.args.session (typed_arguments c.args.args.now) c.nvim_strwidth.result c.args.editor.now told c.in-Strwidth.is
      (c.nvim_strwidth.ensures.row (seen_now c.args.editor.now) c.args.session);
}

pub returns-in-ListUis-clause-row : goal.returns-in-ListUis-clause-row
returns-in-ListUis-clause-row c = record {
  given = λ told.
      reads_row ui_row c.args.method ListUis c.args.session (typed_arguments c.args.args.now) c.nvim_list_uis.result c.args.editor.now told c.in-ListUis.is
      (c.nvim_list_uis.ensures.row c.args.session (typed_arguments c.args.args.now));
}

pub returns-in-UiDetach-clause-row : goal.returns-in-UiDetach-clause-row
returns-in-UiDetach-clause-row c = record {
  given = λ told.
      gives_row ui_row c.args.method UiDetach (seen_now c.args.editor.now) c.args.session (typed_arguments c.args.args.now) c.nvim_ui_detach.result c.args.editor.now c.nvim_ui_detach.new.editor told told c.in-UiDetach.is
      (c.nvim_ui_detach.ensures.row (typed_arguments c.args.args.now) told);
}
