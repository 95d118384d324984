use Rattle.std.proofs.Common.{◌≡◌, ◌++◌, map, take, drop}
use Rattle.nv_lines.specs.inside.Edits.{shifted_start}
use Rattle.nv_lines.proofs.starting.shift_each.Given as goal

abbrev pub invariant-loop-start : goal.invariant-loop-start
invariant-loop-start l =
    l.starts ≡ map (shifted_start l.by) (take l.start-index l.fn.starts) ++ drop l.start-index l.fn.starts
