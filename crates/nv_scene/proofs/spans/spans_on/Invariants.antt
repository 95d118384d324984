use Rattle.std.proofs.Common.{◌≡◌, take}
use Rattle.std.specs.Prelude.{flat_map}
use Rattle.nv_scene.specs.inside.Painting.{spans_of_mark}
use Rattle.nv_scene.proofs.spans.spans_on.Given as goal

abbrev pub invariant-loop-mark : goal.invariant-loop-mark
invariant-loop-mark l = l.spans.items ≡ flat_map (spans_of_mark l.groups l.row l.len) (take l.mark-index l.marks)
