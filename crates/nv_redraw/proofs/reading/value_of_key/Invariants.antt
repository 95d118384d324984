-- The pairs gone over have other keys.
use Rattle.std.proofs.Common.{◌≡◌, drop}
use Rattle.nv_value.specs.View.{pair_contents}
use Rattle.nv_redraw.specs.inside.Candidates.{value_of_key}
use Rattle.nv_redraw.proofs.reading.value_of_key.Given as goal

abbrev pub invariant-loop-pair : goal.invariant-loop-pair
invariant-loop-pair l = value_of_key l.key (pair_contents (drop l.pair-index l.fields)) ≡ value_of_key l.key (pair_contents l.fields)
