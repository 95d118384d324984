use Rattle.std.proofs.Common.{◌==◌, not, rules}
use Rattle.std.specs.List.{list_any}
use Rattle.std.proofs.lemmas.Fn.{filter_same}
use Rattle.nv_model.specs.declared.parts.Ui.{Ui}
use Rattle.nv_editor.proofs.uis.drop_sessions.Goals as goal

pub returns : goal.returns
returns c =
    filter_same _ (λ (u : Ui). not (list_any (λ s. s == u.session) c.args.sessions.now)) _ (λ x b f' k. search rules) _ _ c.retain.ensures.filtered
