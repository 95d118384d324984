use Rattle.std.proofs.Common.{ap, sym, option_map}
use Rattle.nv_rpc.specs.inside.Outlines.{outline_of}
use Rattle.nv_rpc.proofs.OtherLengths.{no_event_between, no_event_above}
use Rattle.nv_rpc.proofs.receiving.arguments_outline.Goals as goal

pub returns-in_default-2 : goal.returns-in_default-2
returns-in_default-2 c =
    sym (ap (option_map outline_of) (no_event_between c.args.name.now c.args.arguments.now c.in_default.len_at_least c.in_default.len_below))

pub returns-in_default-3 : goal.returns-in_default-3
returns-in_default-3 c = sym (ap (option_map outline_of) (no_event_above c.args.name.now c.args.arguments.now c.in_default.len_at_least))
