use Rattle.std.proofs.Common.{◌≡◌, ◌++◌, drop, map}
use Rattle.nv_linegrid.specs.Scrolls.{scroll_of}
use Rattle.nv_painter.proofs.scrolling.push_scrolls.Given as goal

abbrev pub invariant-loop-shift : goal.invariant-loop-shift
invariant-loop-shift l = l.events.items ++ map scroll_of (drop l.shift-index l.shifts) ≡ l.fn.events.items ++ map scroll_of l.shifts
