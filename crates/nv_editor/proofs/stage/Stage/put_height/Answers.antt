use Rattle.std.proofs.Common.{◌∙◌, ap, w64}
use Rattle.std.proofs.lemmas.Int.{to_z-of_z}
use mir.Val.{to_z, of_z}
use Rattle.nv_layout.specs.declared.nodes.Axis.TheVariants.{Down}
use Rattle.nv_model.specs.Stage.{Stage}
use Rattle.nv_windows.specs.Operations.{with_wish_of}
use Rattle.nv_editor.proofs.WindowsKept.{windows_put}
use Rattle.nv_editor.proofs.stage.Stage.put_height.Goals as goal

pub returns-clause-put : goal.returns-clause-put
returns-clause-put c =
    let put = c.put_height.ensures ∙ ap (λ w. with_wish_of w Down c.args.n c.self.inside.windows) (to_z-of_z w64 c.args.window c.ranges.window) in
    windows_put _ c.args.self.now c.put_height.new.self (with_wish_of c.args.window Down c.args.n) c.self.view_is put
