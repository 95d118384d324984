use Rattle.std.proofs.Common.{subst, sym, ◌∙◌}
use Rattle.nv_rpc.specs.Calls.{Call}
use Rattle.nv_rpc.specs.Frames.{call_of_frame}
use Rattle.nv_core.specs.Bounds.{IsLightCall}
use Rattle.nv_halves.specs.Passes.{plain_pass}
use Rattle.nv_halves.specs.inside.Insisting.{AsksOnce}
use Rattle.nv_halves.proofs.Onces.{stays_then}
use Rattle.nv_halves.proofs.Answering.{asks_after}
use Rattle.nv_halves.proofs.insisting.ask.Goals as goal

pub try_call-next-requires-clause-light : goal.try_call-next-requires-clause-light
try_call-next-requires-clause-light g c = subst IsLightCall (sym c.tries.invariant.same_call) c.requires.light

pub returns-in-Ok : goal.returns-in-Ok
returns-in-Ok g c =
    let a = rw c.in-Ok.is at c.try_call-next.ensures in
    asks_after (plain_pass c.args.pass) (plain_pass c.tries.pass) (plain_pass c.try_call-next.result.0) c.args.session (call_of_frame c.args.call) c.in-Ok.asked c.tries.invariant.stays
    (subst (λ (call : Call). AsksOnce c.in-Ok.asked (plain_pass c.tries.pass) (plain_pass c.try_call-next.result.0) c.args.session call) c.tries.invariant.same_call a)

pub tries-preserved : goal.tries-preserved
tries-preserved g c =
    let t = rw c.in-Err.is at c.try_call-next.ensures in
    let paused = c.pause-pass.ensures t.0.number in
    record {
      same_call = t.1 ∙ c.tries.invariant.same_call;
      at_turn = paused.same.turn ∙ t.0.stays.same.turn ∙ c.tries.invariant.at_turn;
      stays = stays_then _ _ _ c.tries.invariant.stays (stays_then _ _ _ t.0.stays paused);
    }
