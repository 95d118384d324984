use Rattle.nv_rpc.specs.Frames.{call_of_frame}
use Rattle.nv_halves.specs.Passes.{plain_pass}
use Rattle.nv_halves.specs.inside.Intakes.{Steps}
use Rattle.nv_halves.specs.declared.steps.Stepped.{Stepped}
use Rattle.nv_halves.proofs.Intaking.{light_call, stepped_call, stepped_flaw, asked_no_fault}
use Rattle.std.proofs.Common.{sym, ◌∙◌, subst}
use Rattle.nv_halves.proofs.steps.step.Goals as goal

pub ask-pass-requires-clause-light : goal.ask-pass-requires-clause-light
ask-pass-requires-clause-light g c =
    let n = rw c.in-Call.is at c.in-Ok.ensures.ok in
    light_call (call_of_frame c.in-Call.call) n.short

pub returns-in-Call-clause-steps : goal.returns-in-Call-clause-steps
returns-in-Call-clause-steps g c =
    let n = rw c.in-Call.is at c.in-Ok.ensures.ok in
    subst (λ (d : Stepped). Steps d c.args.intake.now c.next.new.self (plain_pass c.args.pass) (plain_pass c.ask-pass.result.0) c.args.session) (sym c.stepped_by.ensures)
    (stepped_call (call_of_frame c.in-Call.call) c.args.intake.now c.next.new.self _ _ _ c.ask-pass.result.1 n c.ask-pass.ensures)

pub returns-in-Call-clause-no_read : goal.returns-in-Call-clause-no_read
returns-in-Call-clause-no_read g c = λ e. asked_no_fault c.ask-pass.result.1 (sym c.stepped_by.ensures ∙ e)

pub returns-in-Flaw-clause-steps : goal.returns-in-Flaw-clause-steps
returns-in-Flaw-clause-steps g c =
    let n = rw c.in-Flaw.is at c.in-Ok.ensures.ok in
    stepped_flaw c.in-Flaw.flaw c.args.intake.now c.next.new.self _ _ n

pub returns-in-More-clause-steps : goal.returns-in-More-clause-steps
returns-in-More-clause-steps g c =
    let n = rw c.in-More.is at c.in-Ok.ensures.ok in
    (n.0, n.1, c.wake_behind-pass.ensures)
