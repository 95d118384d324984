use Rattle.std.proofs.Common.{length, ap, arith}
use Rattle.nv_rpc.proofs.Triples.{count-triples}
use Rattle.nv_rpc.proofs.outcome.CallResult.put.Goals as goal

pub put_triples-requires : goal.put_triples-requires
put_triples-requires c =
    let few = (rw c.in-Triples.is at c.requires).0 in
    omega (arith, few, count-triples c.in-Triples.triples.items, ap length c.as_slice.ensures.value)
