use Rattle.std.proofs.Common.{ap, sym, option_map}
use Rattle.nv_value.specs.declared.fault.ApiFault.{ApiFault}
use Rattle.nv_rpc.proofs.OtherLengths.{no_error_below, no_error_above}
use Rattle.nv_rpc.proofs.receiving.items_error.Goals as goal

pub returns-in_default : goal.returns-in_default
returns-in_default c = sym (ap (option_map (λ (fault : ApiFault). fault.kind)) (no_error_below c.args.items.now c.in_default.len_below))

pub returns-in_default-2 : goal.returns-in_default-2
returns-in_default-2 c = sym (ap (option_map (λ (fault : ApiFault). fault.kind)) (no_error_above c.args.items.now c.in_default.len_at_least))
