use Rattle.std.proofs.Common.{subst}
use Rattle.nv_rpc.specs.Frames.{call_of_frame}
use Rattle.nv_core.specs.Gains.{GainsIn}
use Rattle.nv_halves.specs.inside.Insisting.{CallsWith}
use Rattle.nv_halves.proofs.Onces.{once_of, leaves_story, leaves_start}
use Rattle.nv_halves.proofs.Answering.{once_called}
use Rattle.nv_halves.proofs.insisting.try_call.Goals as goal

pub leave-pass-requires-clause-start : goal.leave-pass-requires-clause-start
leave-pass-requires-clause-start g c =
    let came = c.enter-held.ensures in
    let new = c.call_within-tried.new.world in
    let n = c.number-number.result in
    let gains = subst (λ k. GainsIn g.C.Story.stands g.C.Story.start k new n (CallsWith c.call_within-tried.result.0 c.args.session (call_of_frame c.args.call))) c.value.ensures.value c.call_within-tried.ensures in
    leaves_start g.C.Story.caller g.C.Story.stands g.C.Story.start c.args.pass c.enter-held.result.pass c.enter-held.result.value new n (CallsWith c.call_within-tried.result.0 c.args.session (call_of_frame c.args.call)) came.pass came.start gains

pub leave-pass-requires-clause-story : goal.leave-pass-requires-clause-story
leave-pass-requires-clause-story g c =
    let came = c.enter-held.ensures in
    let new = c.call_within-tried.new.world in
    let n = c.number-number.result in
    let gains = subst (λ k. GainsIn g.C.Story.stands g.C.Story.start k new n (CallsWith c.call_within-tried.result.0 c.args.session (call_of_frame c.args.call))) c.value.ensures.value c.call_within-tried.ensures in
    leaves_story g.C.Story.caller g.C.Story.stands g.C.Story.start c.args.pass c.enter-held.result.pass c.enter-held.result.value new n (CallsWith c.call_within-tried.result.0 c.args.session (call_of_frame c.args.call)) g.met.C.Core.callers came.story c.number-number.ensures gains

pub returns : goal.returns
returns g c =
    let came = c.enter-held.ensures in
    let new = c.call_within-tried.new.world in
    let n = c.number-number.result in
    let gains = subst (λ k. GainsIn g.C.Story.stands g.C.Story.start k new n (CallsWith c.call_within-tried.result.0 c.args.session (call_of_frame c.args.call))) c.value.ensures.value c.call_within-tried.ensures in
    once_called _ _ c.args.session (call_of_frame c.args.call) c.call_within-tried.result.0
    (once_of g.C.Story.caller g.C.Story.stands g.C.Story.start c.args.pass c.enter-held.result.pass c.enter-held.result.value new n (CallsWith c.call_within-tried.result.0 c.args.session (call_of_frame c.args.call))
    c.leave-pass.result g.met.C.Core.callers came.pass came.sees came.number came.story came.start c.number-number.ensures gains c.leave-pass.ensures.pass c.leave-pass.ensures.seen)
