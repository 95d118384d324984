-- The worked values, computed.
use Rattle.std.proofs.Common.{refl}
use Rattle.nv_hl.specs.Attributes.{same_attr}
use Rattle.nv_linegrid.specs.Rows.{is_due}
use Rattle.nv_linegrid.specs.Batch.{batch, told_after}
use Rattle.nv_redraw.specs.Values.{batch_tree}
use Rattle.nv_redraw.specs.WorkedValues.{EmptyScreenHasValue, ScrollDownHasValue, ScrollUpHasValue}

pub empty_screen_has_value : EmptyScreenHasValue
unfolding EmptyScreenHasValue batch_tree batch told_after is_due same_attr
empty_screen_has_value = refl

pub scroll_down_has_value : ScrollDownHasValue
unfolding ScrollDownHasValue batch_tree batch told_after is_due same_attr
scroll_down_has_value = refl

pub scroll_up_has_value : ScrollUpHasValue
unfolding ScrollUpHasValue batch_tree batch told_after is_due same_attr
scroll_up_has_value = refl
