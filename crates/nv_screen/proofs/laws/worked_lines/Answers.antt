use Rattle.nv_screen.proofs.WorkedLines.{no_name_is_drawn, odd_line_is_drawn}
use Rattle.nv_screen.proofs.laws.worked_lines.Goals as goal

pub returns-clause-odd : goal.returns-clause-odd
returns-clause-odd c = odd_line_is_drawn

pub returns-clause-status : goal.returns-clause-status
returns-clause-status c = no_name_is_drawn
