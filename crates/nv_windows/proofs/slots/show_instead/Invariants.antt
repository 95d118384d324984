use Rattle.std.proofs.Common.{◌≡◌, ◌++◌, map, take, drop}
use Rattle.nv_windows.specs.Operations.{window_instead}
use Rattle.nv_windows.proofs.slots.show_instead.Given as goal

abbrev pub invariant-loop-window : goal.invariant-loop-window
invariant-loop-window l = l.windows ≡ map (window_instead l.old l.new) (take l.window-index l.fn.windows) ++ drop l.window-index l.fn.windows
