use Rattle.std.proofs.Common.{◌∙◌, ap, w64}
use Rattle.std.proofs.lemmas.Int.{to_z-of_z}
use mir.Val.{to_z, of_z}
use Rattle.nv_model.specs.Stage.{Stage}
use Rattle.nv_windows.specs.Operations.{with_buffer_in}
use Rattle.nv_editor.proofs.WindowsKept.{windows_put}
use Rattle.nv_editor.proofs.stage.Stage.show.Goals as goal

pub returns-clause-put : goal.returns-clause-put
returns-clause-put c =
    let put =
    c.show.ensures
    ∙ (λ i. with_buffer_in (to_z-of_z w64 c.args.window c.ranges.window i) (to_z-of_z w64 c.args.buffer c.ranges.buffer i) c.self.inside.windows) in
    windows_put _ c.args.self.now c.show.new.self (with_buffer_in c.args.window c.args.buffer) c.self.view_is put
