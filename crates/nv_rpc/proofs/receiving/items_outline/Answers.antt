use Rattle.std.proofs.Common.{ap, sym, option_map}
use Rattle.nv_rpc.specs.inside.Outlines.{outline_of}
use Rattle.nv_rpc.proofs.OtherLengths.{no_message_below, no_message_above}
use Rattle.nv_rpc.proofs.receiving.items_outline.Goals as goal

pub returns-in_default : goal.returns-in_default
returns-in_default c = sym (ap (option_map outline_of) (no_message_below c.args.items.now c.in_default.len_below))

pub returns-in_default-2 : goal.returns-in_default-2
returns-in_default-2 c = sym (ap (option_map outline_of) (no_message_above c.args.items.now c.in_default.len_at_least))
