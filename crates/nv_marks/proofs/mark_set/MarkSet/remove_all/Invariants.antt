use Rattle.std.proofs.Common.{◌≡◌, take}
use Rattle.nv_marks.specs.inside.Restoring.{without_all}
use Rattle.nv_marks.proofs.mark_set.MarkSet.remove_all.Given as goal

abbrev pub invariant-loop-mark : goal.invariant-loop-mark
invariant-loop-mark l =
    (l.self.marks ≡ without_all (take l.mark-index l.marks) l.fn.self.marks)
    × (l.self.greatest ≡ l.fn.self.greatest) × (l.self.settings ≡ l.fn.self.settings)
