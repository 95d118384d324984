use Rattle.std.proofs.Common.{List, ap, ◌∙◌}
use Rattle.nv_model.specs.Stage.{Stage, ui_among}
use Rattle.nv_model.specs.declared.parts.Ui.{Ui}
use Rattle.nv_editor.specs.Uis.{ui_fits}
use Rattle.nv_editor.specs.inside.Sizes.{least_size}
use Rattle.nv_editor.proofs.UiSizes.{fits_by}
use Rattle.nv_editor.proofs.stage.Stage.ui_fits.Goals as goal

pub returns : goal.returns
returns c =
    let stage : Stage = record {
      workspace = c.self.inside.windows;
      namespaces = c.self.inside.namespaces;
      groups = c.self.inside.groups;
      notes = c.self.inside.notes;
      uis = c.self.inside.uis.items;
      next_buffer = c.self.inside.next_buffer;
      limits = c.self.inside.limits;
    } in
    fits_by c.args.ui stage c.all_fit.result c.least_with-width.result.0 c.least_with-width.result.1
    (c.least_with-width.ensures.width ∙ ap (λ (us : List Ui). least_size (λ u. u.width) (ui_among c.args.ui us)) c.as_slice.ensures.value)
    (c.least_with-width.ensures.height ∙ ap (λ (us : List Ui). least_size (λ u. u.height) (ui_among c.args.ui us)) c.as_slice.ensures.value)
    c.all_fit.ensures
    ∙ ap (ui_fits c.args.ui) c.self.view_is
