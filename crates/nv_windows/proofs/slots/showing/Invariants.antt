use Rattle.std.proofs.Common.{◌≡◌, ◌++◌, drop}
use Rattle.nv_windows.specs.Workspace.{handles_of_windows, showing}
use Rattle.nv_windows.proofs.slots.showing.Given as goal

abbrev pub invariant-loop-window : goal.invariant-loop-window
invariant-loop-window l =
    l.handles.items ++ handles_of_windows (showing l.buffer (drop l.window-index l.windows)) ≡ handles_of_windows (showing l.buffer l.windows)
