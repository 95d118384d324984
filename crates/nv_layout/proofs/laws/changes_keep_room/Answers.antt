use Rattle.nv_layout.proofs.Asking.{split_asks_for_two, close_asks_for_no_more}
use Rattle.nv_layout.proofs.Wishing.{wish_keeps_form}
use Rattle.nv_layout.proofs.laws.changes_keep_room.Goals as goal

pub returns-clause-split : goal.returns-clause-split
returns-clause-split c = split_asks_for_two

pub returns-clause-close : goal.returns-clause-close
returns-clause-close c = close_asks_for_no_more

pub returns-clause-wish : goal.returns-clause-wish
returns-clause-wish c = wish_keeps_form
