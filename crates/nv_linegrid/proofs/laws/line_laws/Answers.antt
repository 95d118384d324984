use Rattle.nv_linegrid.proofs.LawLemmas.{lines_begin_and_end_due, no_due_no_line}
use Rattle.nv_linegrid.proofs.laws.line_laws.Goals as goal

pub returns : goal.returns
returns c = record { ends = lines_begin_and_end_due; none = no_due_no_line }
