-- Those gone over have left.
use Rattle.std.proofs.Common.{◌≡◌, ℤ, take}
use Rattle.nv_subs.specs.Attachments.{sessions_of, without_sessions}
use Rattle.nv_subs.proofs.subs.Subs.leave_all.Given as goal

abbrev pub invariant-loop-session : goal.invariant-loop-session
invariant-loop-session l =
    (buffer : ℤ) → sessions_of l.self buffer ≡ without_sessions (take l.session-index l.several) (sessions_of l.initial.self buffer)
