-- The worked batches, computed.
use Rattle.std.proofs.Common.{refl}
use Rattle.nv_hl.specs.Attributes.{same_attr}
use Rattle.nv_linegrid.specs.Rows.{is_due}
use Rattle.nv_linegrid.specs.Batch.{batch, told_after}
use Rattle.nv_linegrid.specs.Worked.{EmptyScreenIsTold, ScrollDownIsTold, ScrollUpIsTold}

pub empty_screen_is_told : EmptyScreenIsTold
unfolding EmptyScreenIsTold batch told_after is_due same_attr
empty_screen_is_told = refl

pub scroll_down_is_told : ScrollDownIsTold
unfolding ScrollDownIsTold batch told_after is_due same_attr
scroll_down_is_told = refl

pub scroll_up_is_told : ScrollUpIsTold
unfolding ScrollUpIsTold batch told_after is_due same_attr
scroll_up_is_told = refl
