use Rattle.std.proofs.Common.{[], ◌≡◌, ◌∙◌, refl, ap, subst, ℕ, arith}
use Rattle.std.proofs.lemmas.Result.{err_from_is_err_and}
use Rattle.nv_stream.specs.State.{State}
use Rattle.nv_stream.specs.Answers.{IsAnswer}
use Rattle.nv_stream.specs.declared.stream.Next.{Next}
use Rattle.nv_stream.specs.declared.stream.Next.TheVariants.{Value as TheValue, More as AskMore, Flaw as TheFlaw}
use Rattle.nv_book.specs.inside.Intakes.{Intaking}
use Rattle.nv_book.proofs.Standing.{gave_none, as_inside, given_still, given_value, value_light, told_flaw}
use Rattle.nv_book.proofs.intake.Intake.step.Goals as goal

pub returns-in_err-value-clause-steps : goal.returns-in_err-value-clause-steps
returns-in_err-value-clause-steps g c =
    let p = err_from_is_err_and c.from_residual.result c.from_residual.ensures.1 in
    ([], gave_none _ _, λ fed values h. rw (p.1, p.2) tt)

abbrev answered : (n m : Next) (old new : State) → IsAnswer n old new → n ≡ m → IsAnswer m old new
answered n m old new a e = subst (λ (x : Next). IsAnswer x old new) e a

pub returns-in_err-more-in-More-clause-steps : goal.returns-in_err-more-in-More-clause-steps
returns-in_err-more-in-More-clause-steps g c =
    let p = err_from_is_err_and c.from_residual-in_err-more-in-More.result c.from_residual-in_err-more-in-More.ensures.1 in
    let m = c.in_err-more-in-More.ensures.steps in
    let a = answered c.in_ok-value.field-0 AskMore c.self.inside.stream c.next.new.self c.in_ok-value.ensures.ok c.in-More.is in
    (m.0, m.1, λ fed values h. rw (p.1, p.2) (m.2 fed values (as_inside fed values c.self.inside.taken c.self.inside.stream c.next.new.self c.args.self.now h c.self.view_is a.0)))

pub returns-in-Value-clause-steps : goal.returns-in-Value-clause-steps
returns-in-Value-clause-steps g c =
    let a = answered c.in_ok-value.field-0 (TheValue c.in-Value.value) c.self.inside.stream c.next.new.self c.in_ok-value.ensures.ok c.in-Value.is in (
      [],
      gave_none _ _,
      λ fed values h.
          given_still fed _ c.self.inside.taken c.next.new.self
          (given_value fed values c.self.inside.taken c.in-Value.value c.self.inside.stream c.next.new.self
          (as_inside fed values c.self.inside.taken c.self.inside.stream c.self.inside.stream c.args.self.now h c.self.view_is refl) a),
    )

pub returns-in-Value-clause-light : goal.returns-in-Value-clause-light
returns-in-Value-clause-light g c =
    value_light c.in-Value.value c.self.inside.stream c.next.new.self
    (answered c.in_ok-value.field-0 (TheValue c.in-Value.value) c.self.inside.stream c.next.new.self c.in_ok-value.ensures.ok c.in-Value.is) c.self.invariant.2

pub returns-in_ok-more-in-More-clause-steps : goal.returns-in_ok-more-in-More-clause-steps
returns-in_ok-more-in-More-clause-steps g c =
    let m = c.in_ok-more-in-More.ensures.steps in
    let a = answered c.in_ok-value.field-0 AskMore c.self.inside.stream c.next.new.self c.in_ok-value.ensures.ok c.in-More.is in
    (m.0, m.1, λ fed values h. m.2 fed values (as_inside fed values c.self.inside.taken c.self.inside.stream c.next.new.self c.args.self.now h c.self.view_is a.0))

pub returns-in_ok-more-in-More-clause-progress : goal.returns-in_ok-more-in-More-clause-progress
returns-in_ok-more-in-More-clause-progress g c = λ e.
    let q = c.in_ok-more-in-More.ensures.progress in
    let v = ap (λ (x : Intaking). x.taken) c.self.view_is in
    (omega (arith, q.0, v), omega (arith, q.1, v))

pub returns-in-Flaw-clause-steps : goal.returns-in-Flaw-clause-steps
returns-in-Flaw-clause-steps g c =
    let m = c.malformed.ensures.tells in
    let a = answered c.in_ok-value.field-0 (TheFlaw c.in-Flaw.field-0) c.self.inside.stream c.next.new.self c.in_ok-value.ensures.ok c.in-Flaw.is in
    let s = ap (λ (x : State). x.start) a.0 in (
      m.0,
      m.1,
      λ fed values h.
          told_flaw fed m.0 (g.S.Source.words c.malformed.new.source).left values c.start-place.result c.self.inside.stream c.next.new.self c.in-Flaw.field-0 (record { taken = c.self.inside.taken; stream = c.next.new.self }) c.malformed.result
          (as_inside fed values c.self.inside.taken c.self.inside.stream c.self.inside.stream c.args.self.now h c.self.view_is refl) a (c.start-place.ensures ∙ s) m.2,
    )
