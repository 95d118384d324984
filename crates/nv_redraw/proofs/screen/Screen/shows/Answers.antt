use Rattle.std.proofs.Common.{◌≡◌, ◌↔◌, Bool, true, sym, subst}
use Rattle.nv_redraw.specs.Taking.{ShowsGrid}
use Rattle.nv_redraw.proofs.ScreenLemmas.{shows_grid}
use Rattle.nv_redraw.proofs.screen.Screen.shows.Goals as goal

pub returns : goal.returns
returns c =
    subst (λ (b : Bool). (b ≡ true) ↔ ShowsGrid c.args.self.now c.args.grid.now (c.args.row, c.args.col)) (sym c.shows_all.ensures)
    (shows_grid c.args.self.now c.args.grid.now c.args.row c.args.col)
