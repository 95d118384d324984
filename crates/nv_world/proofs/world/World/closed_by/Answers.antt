use Rattle.std.proofs.Common.{ap, ◌∙◌}
use Rattle.nv_world.specs.Worlds.{WorldRecord, model_of}
use Rattle.nv_world.proofs.world.World.closed_by.Goals as goal

pub returns : goal.returns
returns c = λ w live runs.
    c.closed_by.ensures w
    (c.self.invariant.holds.stands w (ap (λ (k : WorldRecord). k.spent) c.self.view_is ∙ live) (ap model_of c.self.view_is ∙ runs)).state
