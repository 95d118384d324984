use Rattle.nv_linedraw.proofs.WholeLemmas.{rows_are_whole}
use Rattle.nv_linedraw.proofs.laws.row_laws.Goals as goal

pub returns : goal.returns
returns c = rows_are_whole
