use Rattle.nv_cells_laws.proofs.Halves.{no_row_begins_with_half}
use Rattle.nv_cells_laws.proofs.laws.half_law.Goals as goal

pub returns : goal.returns
returns c = no_row_begins_with_half
