use Rattle.std.proofs.Common.{Some, inl, refl, ap, sym, ◌∙◌, subst}
use Rattle.nv_halves.specs.Passes.{plain_pass}
use Rattle.nv_halves.proofs.Onces.{stays_self, stays_looking}
use Rattle.nv_halves.proofs.insisting.wake_behind.Goals as goal

pub returns-then-at_hand-eq0 : goal.returns-then-at_hand-eq0
returns-then-at_hand-eq0 g c = stays_self (plain_pass c.args.pass)

pub leave-pass-requires-clause-start : goal.leave-pass-requires-clause-start
leave-pass-requires-clause-start g c =
    let came = c.enter-held.ensures in
    came.pass.start ∙ came.start ∙ ap (λ v. Some (g.C.Story.start v)) (sym c.value.ensures.value)

pub leave-pass-requires-clause-story : goal.leave-pass-requires-clause-story
leave-pass-requires-clause-story g c =
    let seen = c.enter-held.result.pass.seen in
    (seen, inl refl, subst (λ v. g.C.Story.stands v seen) (sym c.value.ensures.value) c.enter-held.ensures.story)

pub returns : goal.returns
returns g c =
    let came = c.enter-held.ensures in
    let seen = c.enter-held.result.pass.seen in
    stays_looking g.C.Story.caller c.args.pass c.enter-held.result.pass c.leave-pass.result g.met.C.Core.callers came.pass came.sees came.number c.leave-pass.ensures.pass
    (c.leave-pass.ensures.seen seen (inl refl) (subst (λ v. g.C.Story.stands v seen) (sym c.value.ensures.value) came.story))
