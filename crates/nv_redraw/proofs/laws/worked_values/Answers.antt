use Rattle.nv_redraw.proofs.WorkedValueLemmas.{empty_screen_has_value, scroll_down_has_value, scroll_up_has_value}
use Rattle.nv_redraw.proofs.laws.worked_values.Goals as goal

pub returns : goal.returns
returns c = record { empty = empty_screen_has_value; down = scroll_down_has_value; up = scroll_up_has_value }
