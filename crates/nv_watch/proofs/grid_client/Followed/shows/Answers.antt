use Rattle.std.proofs.Common.{rules, ◌≡◌}
use Rattle.std.specs.Prelude.{◌&&◌}
use Rattle.nv_watch.proofs.GridClients.{screen_shows}
use Rattle.nv_watch.proofs.grid_client.Followed.shows.Goals as goal
use Rattle.nv_watch.proofs.grid_client.Followed.shows.Goals.{then-shown, else-shown}

pub returns : goal.returns
returns c =
    let both : c.if-shown.result ≡ (c.shows-shown.result && c.are_colours-coloured.result) = elim c.if-shown.branch [ then-shown w ↦ search rules | else-shown w ↦ search rules ] in
    screen_shows c.args.self.now c.self.inside.screen c.args.scene.now c.in_ok-grid.grid (c.in_ok-row.row, c.in_ok-row.col) c.self.inside.colours _ _ _ c.self.view_is c.self.invariant
    c.in_ok-grid.ensures c.in_ok-row.ensures both c.shows-shown.ensures c.are_colours-coloured.ensures
