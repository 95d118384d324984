use Rattle.std.proofs.Common.{◌≡◌}
use Rattle.nv_marks.proofs.index.Index.note_all.Given as goal

abbrev pub invariant-loop-record : goal.invariant-loop-record
invariant-loop-record l = l.self ≡ l.fn.self
