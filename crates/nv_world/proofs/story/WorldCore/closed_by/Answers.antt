use Rattle.nv_world.proofs.Gaining.{runs_in}
use Rattle.nv_world.proofs.story.WorldCore.closed_by.Goals as goal

pub returns : goal.returns
returns c = λ live story w stands runs.
    c.closed_by.ensures w live (runs_in c.args.self.now story w stands runs)
