use Rattle.std.proofs.Common.{◌-◌}
use Rattle.nv_scene.proofs.panes.+push_lines.Given as goal

abbrev pub decreases-push_lines : goal.decreases-push_lines
decreases-push_lines l = l.behind - l.first
