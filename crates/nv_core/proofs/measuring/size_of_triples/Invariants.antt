use Rattle.std.proofs.Common.{◌≡◌, drop, map}
use Rattle.nv_value.specs.Content.{trees_of}
use Rattle.nv_rpc.specs.Outcomes.{triple_content}
use Rattle.nv_core.specs.Sizes.{memory_with}
use Rattle.nv_core.proofs.measuring.size_of_triples.Given as goal

abbrev pub invariant-loop-triple : goal.invariant-loop-triple
invariant-loop-triple l =
    memory_with (trees_of (map triple_content (drop l.triple-index l.triples))) l.size ≡ memory_with (trees_of (map triple_content l.triples)) 32
