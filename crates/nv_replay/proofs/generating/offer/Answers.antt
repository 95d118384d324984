use Rattle.nv_replay.proofs.Offering.{offers_ok, offers_err, on_ok_gives}
use Rattle.nv_replay.proofs.generating.offer.Goals as goal

pub returns-in-Ok : goal.returns-in-Ok
returns-in-Ok c = offers_ok c.args.entry c.args.world.now c.apply.new.self c.in-Ok.field-0 c.in-Ok.ensures.ok.1

pub returns : goal.returns
returns c =
    on_ok_gives _ _ _ c.unless_want.ensures (λ not. offers_err c.args.entry c.args.world.now c.apply.new.self c.in-Err.stop not c.in-Err.ensures.err.1)
