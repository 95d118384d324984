use Rattle.std.proofs.Common.{refl, rules}
use Rattle.nv_painter.proofs.LoneLemmas.{lone_is_sound}
use Rattle.nv_tests_parts.proofs.steady.scene_with.Goals as goal

pub returns : goal.returns
returns c =
    lone_is_sound _ c.args.pane c.requires.lone (search rules) (search rules) (search rules) refl refl c.requires.first c.requires.last
