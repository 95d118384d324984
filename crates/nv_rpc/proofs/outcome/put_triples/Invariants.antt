-- What has been put so far, and what is left, is all of it.
use Rattle.std.proofs.Common.{◌≡◌, ◌++◌, drop}
use Rattle.nv_rpc.proofs.Triples.{all_put}
use Rattle.nv_rpc.proofs.outcome.put_triples.Given as goal

abbrev pub invariant-loop-triple : goal.invariant-loop-triple
invariant-loop-triple l = l.into.items ++ all_put (drop l.triple-index l.triples) ≡ l.initial.into.items ++ all_put l.triples
