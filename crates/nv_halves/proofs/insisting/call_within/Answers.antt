use Rattle.std.proofs.Common.{Err, refl}
use Rattle.nv_rpc.specs.Frames.{call_of_frame}
use Rattle.nv_halves.specs.inside.Insisting.{CallsWith}
use Rattle.nv_halves.proofs.Comings.{untried_in}
use Rattle.nv_halves.proofs.insisting.call_within.Goals as goal

pub returns-then-before-gt-MOST_DUE : goal.returns-then-before-gt-MOST_DUE
returns-then-before-gt-MOST_DUE g c =
    untried_in g.C.Story.stands g.C.Story.start c.args.world.now c.args.caller (CallsWith (Err c.args.call) c.args.session (call_of_frame c.args.call)) (λ v n. (n, refl))
