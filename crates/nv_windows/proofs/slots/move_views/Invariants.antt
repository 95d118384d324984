use Rattle.std.proofs.Common.{◌≡◌, ◌++◌, map, take, drop}
use Rattle.nv_windows.specs.Views.{view_showing}
use Rattle.nv_windows.proofs.slots.move_views.Given as goal

abbrev pub invariant-loop-window : goal.invariant-loop-window
invariant-loop-window l =
    l.windows
    ≡ map (view_showing l.buffer (record { start = l.start; old = l.old; new = l.new; count = l.count })) (take l.window-index l.fn.windows) ++ drop l.window-index l.fn.windows
