use Rattle.nv_linegrid.proofs.LawLemmas.{scroll_moves, scroll_counts_rows}
use Rattle.nv_linegrid.proofs.laws.scroll_laws.Goals as goal

pub returns : goal.returns
returns c = record { moves = scroll_moves; counts = scroll_counts_rows }
