use Rattle.std.proofs.Common.{rules, ◌∙◌, ap, Some, w64}
use Rattle.std.specs.Prelude.{option_map}
use Rattle.std.proofs.lemmas.Int.{to_z-of_z}
use mir.Val.{to_z, of_z, SFits}
use Rattle.nv_windows.specs.Workspace.{Page, Workspace, tabpage_of}
use Rattle.nv_windows.specs.Kept.{workspace_of}
use Rattle.nv_windows.proofs.Seating.{spot_home}
use Rattle.nv_windows.proofs.windows.Windows.home.Goals as goal

pub returns-in-Some : goal.returns-in-Some
returns-in-Some c =
    let fits : SFits w64 c.in-Some.spot.tabpage = search rules in
    ap Some (to_z-of_z w64 c.in-Some.spot.tabpage fits)
    ∙ spot_home (workspace_of c.self.inside.parts) (to_z w64 (of_z w64 c.args.window)) c.spot.result c.in-Some.spot c.in-Some.is
    (c.spot.ensures (workspace_of c.self.inside.parts) c.self.invariant.seats)
    ∙ ap (λ w. option_map (λ (t : Page). t.handle) (tabpage_of (workspace_of c.self.inside.parts) w)) (to_z-of_z w64 c.args.window c.ranges.window)
    ∙ ap (λ (v : Workspace). option_map (λ (t : Page). t.handle) (tabpage_of v c.args.window)) c.self.view_is
