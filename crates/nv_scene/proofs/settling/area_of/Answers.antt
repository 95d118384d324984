use Rattle.std.proofs.Common.{sym, subst, ◌∙◌}
use Rattle.nv_windows.specs.Sound.{IsSoundWorkspace}
use Rattle.nv_scene.proofs.Found.{area_of_any}
use Rattle.nv_scene.proofs.settling.area_of.Goals as goal

pub returns-clause-size : goal.returns-clause-size
returns-clause-size c =
    area_of_any c.windows-2.result.now _ c.area.result (subst IsSoundWorkspace (c.windows.ensures ∙ sym c.windows-2.ensures) c.windows-windows.ensures.sound) c.area.ensures
