use Rattle.nv_editor.proofs.Going.{Making}
use Rattle.nv_editor.proofs.editor.Editor.go.Given as goal

abbrev pub invariant-loop-place : goal.invariant-loop-place
invariant-loop-place l = Making l.buffer l.leg l.initial.self l.self l.initial.happened l.happened l.place
