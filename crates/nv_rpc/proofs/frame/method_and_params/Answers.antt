-- The two values popped are the last two.
use Rattle.nv_rpc.proofs.CallParts.{parts_of}
use Rattle.nv_rpc.proofs.frame.method_and_params.Goals as goal

pub name_of-requires : goal.name_of-requires
name_of-requires c =
    (parts_of _ _ _ _ _ _ _ c.pop.ensures.items c.in-Some-Some.is-0 c.pop-2.ensures.items c.in-Some-Some.is-1 c.requires).named

pub params_of-requires : goal.params_of-requires
params_of-requires c =
    (parts_of _ _ _ _ _ _ _ c.pop.ensures.items c.in-Some-Some.is-0 c.pop-2.ensures.items c.in-Some-Some.is-1 c.requires).listed

pub returns : goal.returns
returns c =
    (parts_of _ _ _ _ _ _ _ c.pop.ensures.items c.in-Some-Some.is-0 c.pop-2.ensures.items c.in-Some-Some.is-1 c.requires).made _ _ c.name_of.ensures c.params_of.ensures
