use Rattle.std.proofs.Common.{◌∙◌}
use Rattle.nv_halves.specs.Passes.{plain_pass}
use Rattle.nv_halves.proofs.Onces.{stays_then}
use Rattle.nv_halves.proofs.Answering.{shuts_after}
use Rattle.nv_halves.proofs.insisting.shut.Goals as goal

pub returns-in-Some-tried : goal.returns-in-Some-tried
returns-in-Some-tried g c =
    let a = rw c.in-Some-tried.is at c.try_close-next.ensures in
    shuts_after (plain_pass c.args.pass) (plain_pass c.tries.pass) (plain_pass c.try_close-next.result.0) c.args.session c.in-Some-tried.asked c.tries.invariant.stays a

pub tries-preserved : goal.tries-preserved
tries-preserved g c =
    let t = rw c.in-None-tried.is at c.try_close-next.ensures in
    let paused = c.pause-pass.ensures t.number in
    record {
      at_turn = paused.same.turn ∙ t.stays.same.turn ∙ c.tries.invariant.at_turn;
      stays = stays_then _ _ _ c.tries.invariant.stays (stays_then _ _ _ t.stays paused);
    }
