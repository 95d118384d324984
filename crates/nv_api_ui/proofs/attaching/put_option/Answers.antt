use Rattle.std.proofs.Common.{◌∙◌, sym, ap, ℕ}
use Rattle.nv_api_ui.specs.UiRows.{ui_of}
use Rattle.nv_api_ui.proofs.attaching.put_option.Goals as goal

pub put_again-requires-clause-there : goal.put_again-requires-clause-there
put_again-requires-clause-there c =
    ap (λ (session : ℕ). ui_of session c.args.editor.now.stage.uis) (c.with_ui_option.ensures.same.session ∙ c.in-Some.ensures.owner)
    ∙ sym (c.ui_of.ensures.ui ∙ ap (ui_of c.args.session) c.uis.ensures.uis)
    ∙ c.in-Some.is
