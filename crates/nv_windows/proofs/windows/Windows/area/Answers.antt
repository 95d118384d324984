use Rattle.std.proofs.Common.{◌∙◌, ap, Some, w64}
use Rattle.std.proofs.lemmas.Int.{to_z-of_z}
use mir.Val.{to_z, of_z}
use Rattle.nv_windows.specs.Rooms.{text_area}
use Rattle.nv_windows.specs.Workspace.{Workspace}
use Rattle.nv_windows.specs.Kept.{workspace_of}
use Rattle.nv_windows.proofs.Seating.{spot_area}
use Rattle.nv_windows.proofs.windows.Windows.area.Goals as goal

pub returns-in-Some : goal.returns-in-Some
returns-in-Some c =
    ap Some c.without_status.ensures
    ∙ spot_area (workspace_of c.self.inside.parts) (to_z w64 (of_z w64 c.args.window)) c.spot.result c.in-Some.spot c.in-Some.is
    (c.spot.ensures (workspace_of c.self.inside.parts) c.self.invariant.seats)
    ∙ ap (text_area (workspace_of c.self.inside.parts)) (to_z-of_z w64 c.args.window c.ranges.window) ∙ ap (λ (v : Workspace). text_area v c.args.window) c.self.view_is
