use Rattle.std.proofs.Common.{◌≡◌, ◌++◌, map, take, drop}
use Rattle.nv_editor.specs.inside.Views.{clamped}
use Rattle.nv_editor.proofs.views.clamp_cursors.Given as goal

abbrev pub invariant-loop-place : goal.invariant-loop-place
invariant-loop-place l =
    l.windows
    ≡ record l.fn.windows { windows = map (clamped l.buffer l.text) (take l.place l.fn.windows.windows) ++ drop l.place l.fn.windows.windows }
