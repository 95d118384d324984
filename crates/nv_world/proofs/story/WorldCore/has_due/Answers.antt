use Rattle.nv_world.proofs.Gaining.{runs_in}
use Rattle.nv_world.proofs.story.WorldCore.has_due.Goals as goal

pub returns : goal.returns
returns c = λ live story w stands runs.
    c.has_due.ensures w live (runs_in c.args.self.now story w stands runs)
