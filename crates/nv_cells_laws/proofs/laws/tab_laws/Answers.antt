use Rattle.nv_cells_laws.proofs.Places.{columns_are_cells, tabs_end_at_stops}
use Rattle.nv_cells_laws.proofs.laws.tab_laws.Goals as goal

pub returns-clause-stops : goal.returns-clause-stops
returns-clause-stops c = tabs_end_at_stops

pub returns-clause-columns : goal.returns-clause-columns
returns-clause-columns c = columns_are_cells
