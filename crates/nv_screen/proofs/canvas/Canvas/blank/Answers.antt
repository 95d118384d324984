use Rattle.std.proofs.Common.{◌∙◌, ap}
use Rattle.nv_hl.specs.Cells.{blank_screen}
use Rattle.nv_screen.specs.inside.Laid.{screen_of_strips}
use Rattle.nv_screen.proofs.CanvasLemmas.{blank_is}
use Rattle.nv_screen.proofs.canvas.Canvas.blank.Goals as goal

pub returns : goal.returns
returns c =
    ap (screen_of_strips c.args.width c.args.height) c.in_ok-strips.ensures
    ∙ ap (λ rows. record (blank_screen c.args.width c.args.height) { rows = rows }) (blank_is c.args.width c.args.height)
