use Rattle.nv_world.proofs.Standings.{finished}
use Rattle.nv_world.proofs.finishing.finish.Goals as goal

pub returns : goal.returns
returns c = λ w at.
    finished c.args.state.now c.end_if.new.state c.drop_uis_of_closed.new.state c.args.numbers w at c.end_if.ensures.world c.in_ok-drop_uis_of_closed.ensures.world
