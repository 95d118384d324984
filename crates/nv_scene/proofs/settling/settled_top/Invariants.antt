use Rattle.std.proofs.Common.{◌≡◌, ◌+◌, ◌-◌, map}
use Rattle.nv_linedraw.specs.LineCells.{rows_of_line}
use Rattle.nv_scene.proofs.Fitting.{rows_from}
use Rattle.nv_scene.proofs.settling.settled_top.Given as goal

abbrev pub invariant-loop-n : goal.invariant-loop-n
invariant-loop-n l =
    rows_from (map (rows_of_line l.fn.area.width l.fn.tabstop) l.fn.text) l.fn.cursor (l.fn.cursor + 1 - l.n) + l.left ≡ l.fn.area.height
