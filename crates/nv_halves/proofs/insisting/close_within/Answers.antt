use Rattle.std.proofs.Common.{None}
use Rattle.nv_halves.specs.inside.Insisting.{ClosesWith}
use Rattle.nv_halves.proofs.Comings.{untried_in}
use Rattle.nv_halves.proofs.insisting.close_within.Goals as goal

pub returns-then-bytes_due-most : goal.returns-then-bytes_due-most
returns-then-bytes_due-most g c = untried_in g.C.Story.stands g.C.Story.start c.args.world.now c.args.caller (ClosesWith None c.args.session) (λ v n. n)
