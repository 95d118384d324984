use Rattle.std.proofs.Common.{◌≡◌, take}
use Rattle.std.specs.Prelude.{flat_map}
use Rattle.nv_scene.specs.inside.Painting.{mark_if_on}
use Rattle.nv_scene.proofs.spans.marks_among.Given as goal

abbrev pub invariant-loop-mark : goal.invariant-loop-mark
invariant-loop-mark l = l.among.items ≡ flat_map (mark_if_on l.first l.behind) (take l.mark-index l.marks)
