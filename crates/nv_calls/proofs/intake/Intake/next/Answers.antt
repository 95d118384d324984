use Rattle.std.proofs.Common.{◌+◌, Some, ap, subst, ◌∙◌}
use Rattle.nv_rpc.specs.Frames.{call_of_frame}
use Rattle.nv_io.specs.declared.lanes.Flaw.TheVariants.{NoCall}
use Rattle.nv_calls.specs.Reading.{EndsAt, IfInside}
use Rattle.nv_calls.specs.Intakes.{IntakeState, GivesCall}
use Rattle.nv_calls.specs.inside.Bounded.{intake_of}
use Rattle.nv_calls.proofs.Giving.{call_given, no_call_given, flaw_given}
use Rattle.nv_calls.proofs.intake.Intake.next.Goals as goal

pub returns-in-Call-clause-ok : goal.returns-in-Call-clause-ok
returns-in-Call-clause-ok c =
    let t = rw c.in-Call.is at c.in_ok-call.ensures.ok in
    let b = c.self.invariant.1 in
    subst (λ (x : IntakeState). GivesCall (call_of_frame c.in-Call.call) x (intake_of c.next_given.new.stream (c.self.inside.number + 1))) c.self.view_is
    (call_given c.self.inside.stream c.next_given.new.stream c.self.inside.number (call_of_frame c.in-Call.call) b.0 b.1 t)

pub returns-in-NoCall-clause-ok : goal.returns-in-NoCall-clause-ok
returns-in-NoCall-clause-ok c =
    let t = rw c.in-NoCall.is at c.in_ok-call.ensures.ok in
    let b = c.self.invariant.1 in
    let n = c.self.inside.number in
    subst (λ (x : IntakeState). EndsAt x.number x.place x.held (Some (NoCall n)) × IfInside (NoCall n) ⊥) c.self.view_is
    (no_call_given c.self.inside.stream c.next_given.new.stream n t.0 b.0 b.1 t.1 t.2)

pub returns-in-Flaw-clause-ok : goal.returns-in-Flaw-clause-ok
returns-in-Flaw-clause-ok c =
    let t = rw c.in-Flaw.is at c.in_ok-call.ensures.ok in
    let b = c.self.invariant.1 in
    let live = ap (λ (x : IntakeState). x.flaw) c.self.view_is ∙ c.requires in
    subst (λ (x : IntakeState). EndsAt x.number x.place x.held (Some c.in-Flaw.flaw) × IfInside c.in-Flaw.flaw ⊥) c.self.view_is
    (flaw_given c.in-Flaw.flaw c.self.inside.stream c.next_given.new.stream c.self.inside.number b.0 b.1 live t)
