use Rattle.std.proofs.Common.{◌≡◌}
use Rattle.nv_model.specs.Editors.{handles_of}
use Rattle.nv_editor.proofs.TakingOut.{least_of_others}
use Rattle.nv_editor.proofs.buffers.least_but.Given as goal

abbrev pub invariant-loop-other : goal.invariant-loop-other
invariant-loop-other l = least_of_others l.handle l.other-iterator ≡ least_of_others l.handle (handles_of l.buffers.entries)
