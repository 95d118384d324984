use Rattle.nv_editor.proofs.Going.{Passing}
use Rattle.nv_editor.proofs.editor.Editor.walk.Given as goal

abbrev pub invariant-loop-leg : goal.invariant-loop-leg
invariant-loop-leg l = Passing l.buffer l.legs l.initial.self l.self l.initial.happened l.happened l.leg-index
