use Rattle.std.proofs.Common.{ap, sym, option_map}
use Rattle.nv_rpc.specs.inside.Heads.{head_of_call}
use Rattle.nv_rpc.proofs.CallParts.{no_call_below, no_call_above}
use Rattle.nv_rpc.proofs.frame.head_of.Goals as goal

pub returns-in_default : goal.returns-in_default
returns-in_default c = sym (ap (option_map head_of_call) (no_call_below c.args.items.now c.in_default.len_below))

pub returns-in_default-2 : goal.returns-in_default-2
returns-in_default-2 c = sym (ap (option_map head_of_call) (no_call_above c.args.items.now c.in_default.len_at_least))
