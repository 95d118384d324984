use Rattle.std.proofs.Common.{◌∙◌, ap, w64}
use Rattle.std.proofs.lemmas.Int.{to_z-of_z}
use mir.Val.{to_z, of_z}
use Rattle.nv_model.specs.Stage.{Stage}
use Rattle.nv_windows.specs.Operations.{at_window}
use Rattle.nv_editor.proofs.WindowsKept.{windows_put}
use Rattle.nv_editor.proofs.stage.Stage.go_to_window.Goals as goal

pub returns-clause-put : goal.returns-clause-put
returns-clause-put c =
    let put = c.go.ensures ∙ ap (λ w. at_window w c.self.inside.windows) (to_z-of_z w64 c.args.window c.ranges.window) in
    windows_put _ c.args.self.now c.go.new.self (at_window c.args.window) c.self.view_is put
