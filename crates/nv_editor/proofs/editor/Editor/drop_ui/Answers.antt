use Rattle.std.proofs.Common.{◌≡◌, ◌∷◌, [], false, ap, sym, subst, ◌∙◌}
use Rattle.nv_model.specs.Operations.{uis_dropped}
use Rattle.nv_model.specs.Standing.{PresentEditor}
use Rattle.nv_editor.specs.Doing.{Does}
use Rattle.nv_editor.specs.Uis.{has_ui}
use Rattle.nv_editor.proofs.UisKept.{none_dropped_done}
use Rattle.nv_editor.proofs.editor.Editor.drop_ui.Goals as goal

pub returns-then-not-has_ui-clause-done : goal.returns-then-not-has_ui-clause-done
returns-then-not-has_ui-clause-done c =
    let none : has_ui c.args.session c.self.inside.stage.uis ≡ false =
    sym (ap (has_ui c.args.session) c.uis.ensures) ∙ sym c.has_ui.ensures ∙ c.if-not-has_ui.true in
    subst (λ (e : PresentEditor). Does (uis_dropped (c.args.session ∷ []) ∷ []) e e) c.self.view_is
    (none_dropped_done (record { buffers = c.self.inside.buffers; stage = c.self.inside.stage }) c.args.session c.self.invariant.0 none)
