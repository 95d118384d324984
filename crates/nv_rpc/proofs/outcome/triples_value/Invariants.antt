-- What has been made so far has the content of those gone over.
use Rattle.std.proofs.Common.{◌≡◌, map, take}
use Rattle.nv_value.specs.View.{content}
use Rattle.nv_rpc.specs.Outcomes.{triple_content}
use Rattle.nv_rpc.proofs.outcome.triples_value.Given as goal

abbrev pub invariant-loop-triple : goal.invariant-loop-triple
invariant-loop-triple l = map content l.items.items ≡ map triple_content (take l.triple-index l.triples)
