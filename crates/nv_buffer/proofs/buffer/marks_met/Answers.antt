use Rattle.std.proofs.Common.{ℕ, List, ◌<◌, length, subst, sym}
use Rattle.nv_marks.specs.declared.keeping.Kept.{Kept}
use Rattle.nv_buffer.proofs.buffer.marks_met.Goals as goal

pub returns-clause-room : goal.returns-clause-room
returns-clause-room c =
    λ some. c.in_ok-make_room.ensures.room (subst (λ (ks : List Kept). 0 < length ks) (sym c.deref.ensures.value) some)
