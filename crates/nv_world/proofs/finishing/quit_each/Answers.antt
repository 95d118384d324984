use Rattle.std.proofs.Common.{arith}
use Rattle.nv_world.proofs.Stating.{quit_more, quit_whole}
use Rattle.nv_world.proofs.finishing.quit_each.Goals as goal

pub loop-place-preserved : goal.loop-place-preserved
loop-place-preserved c = λ capacity ys pairs.
    quit_more capacity c.args.at c.loop-place.place c.loop-place.sessions ys _ c.quit.new.session (c.loop-place.invariant capacity ys pairs)
    (λ y is. c.quit.ensures capacity y is)

pub returns : goal.returns
returns c = λ capacity ys pairs.
    quit_whole capacity c.args.at c.loop-place.place c.loop-place.sessions ys (omega arith) (c.loop-place.invariant capacity ys pairs)
