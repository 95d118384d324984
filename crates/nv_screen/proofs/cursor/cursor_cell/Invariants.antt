use Rattle.std.proofs.Common.{◌≡◌, drop}
use Rattle.nv_screen.specs.Cursor.{cursor_among, cursor_of_scene}
use Rattle.nv_screen.proofs.cursor.cursor_cell.Given as goal

abbrev pub invariant-loop-pane : goal.invariant-loop-pane
invariant-loop-pane l = cursor_among (drop l.pane-index l.pane-items) l.scene.cursor ≡ cursor_of_scene l.scene
