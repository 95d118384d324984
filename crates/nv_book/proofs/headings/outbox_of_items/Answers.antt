use Rattle.nv_book.proofs.Lengths.{no_outbox_below, no_outbox_above}
use Rattle.nv_book.proofs.headings.outbox_of_items.Goals as goal

pub returns-in_default : goal.returns-in_default
returns-in_default c = no_outbox_below c.args.items.now c.in_default.len_below

pub returns-in_default-2 : goal.returns-in_default-2
returns-in_default-2 c = no_outbox_above c.args.items.now c.in_default.len_at_least
