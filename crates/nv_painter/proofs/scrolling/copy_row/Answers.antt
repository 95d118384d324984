use Rattle.std.proofs.Common.{◌∙◌}
use Rattle.nv_painter.proofs.MoveLemmas.{between_none}
use Rattle.nv_painter.proofs.scrolling.copy_row.Goals as goal

pub returns : goal.returns
returns c = c.in_ok-same.ensures ∙ between_none c.cells-cells.result.now c.cells-cells.result.now ∙ c.cells-cells.ensures
