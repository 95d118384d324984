use Rattle.std.proofs.Common.{subst}
use Rattle.nv_core.specs.Gains.{GainsIn}
use Rattle.nv_halves.specs.Applying.{OpensWith}
use Rattle.nv_halves.proofs.Onces.{once_of, leaves_story, leaves_start}
use Rattle.nv_halves.proofs.opening.open.Goals as goal

pub leave-pass-requires-clause-start : goal.leave-pass-requires-clause-start
leave-pass-requires-clause-start g c =
    let came = c.enter-held.ensures in
    let new = c.open_in-opened.new.world in
    let n = c.number-number.result in
    let gains = subst (λ k. GainsIn g.C.Story.stands g.C.Story.start k new n (OpensWith c.open_in-opened.result.0)) c.value.ensures.value c.open_in-opened.ensures in
    leaves_start g.C.Story.caller g.C.Story.stands g.C.Story.start c.args.pass c.enter-held.result.pass c.enter-held.result.value new n (OpensWith c.open_in-opened.result.0) came.pass came.start gains

pub leave-pass-requires-clause-story : goal.leave-pass-requires-clause-story
leave-pass-requires-clause-story g c =
    let came = c.enter-held.ensures in
    let new = c.open_in-opened.new.world in
    let n = c.number-number.result in
    let gains = subst (λ k. GainsIn g.C.Story.stands g.C.Story.start k new n (OpensWith c.open_in-opened.result.0)) c.value.ensures.value c.open_in-opened.ensures in
    leaves_story g.C.Story.caller g.C.Story.stands g.C.Story.start c.args.pass c.enter-held.result.pass c.enter-held.result.value new n (OpensWith c.open_in-opened.result.0) g.met.C.Core.callers came.story c.number-number.ensures gains

pub returns : goal.returns
returns g c =
    let came = c.enter-held.ensures in
    let new = c.open_in-opened.new.world in
    let n = c.number-number.result in
    let gains = subst (λ k. GainsIn g.C.Story.stands g.C.Story.start k new n (OpensWith c.open_in-opened.result.0)) c.value.ensures.value c.open_in-opened.ensures in
    once_of g.C.Story.caller g.C.Story.stands g.C.Story.start c.args.pass c.enter-held.result.pass c.enter-held.result.value new n (OpensWith c.open_in-opened.result.0)
    c.leave-pass.result g.met.C.Core.callers came.pass came.sees came.number came.story came.start c.number-number.ensures gains c.leave-pass.ensures.pass c.leave-pass.ensures.seen
