use Rattle.nv_linegrid.proofs.WorkedLemmas.{empty_screen_is_told, scroll_down_is_told, scroll_up_is_told}
use Rattle.nv_linegrid.proofs.laws.worked_batches.Goals as goal

pub returns : goal.returns
returns c = record { empty = empty_screen_is_told; down = scroll_down_is_told; up = scroll_up_is_told }
