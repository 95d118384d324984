-- The item that the list had at the place.
use Rattle.std.proofs.Common.{arith}
use Rattle.nv_rpc.proofs.Filling.{item_within, item_is}
use Rattle.nv_rpc.proofs.parts.item_of.Goals as goal

pub swap_remove-requires : goal.swap_remove-requires
swap_remove-requires c =
    let h = item_within c.args.value c.in-List.items c.args.place c.in-List.is c.requires in
    omega (arith, h)

pub returns : goal.returns
returns c =
    item_is c.args.value c.in-List.items c.args.place c.swap_remove.result c.in-List.is
    (item_within c.args.value c.in-List.items c.args.place c.in-List.is c.requires) c.swap_remove.ensures.value
