use Rattle.nv_book.proofs.Lengths.{no_end_below, no_end_above}
use Rattle.nv_book.proofs.headings.end_of_items.Goals as goal

pub returns-in_default : goal.returns-in_default
returns-in_default c = no_end_below c.args.items.now c.in_default.len_below

pub returns-in_default-2 : goal.returns-in_default-2
returns-in_default-2 c = no_end_above c.args.items.now c.in_default.len_at_least
