use Rattle.std.proofs.Common.{List, sym, subst}
use Rattle.nv_world.specs.Steps.{AreLastSplices}
use Rattle.nv_world.specs.Worlds.{WorldRecord}
use Rattle.nv_world.specs.declared.step.Moved.{Moved}
use Rattle.nv_world.proofs.world.World.last_splices.Goals as goal

pub returns : goal.returns
returns c =
    subst (λ (k : WorldRecord). AreLastSplices k.capacity k.limits k.history c.in_ok-splices.splices.items) c.self.view_is
    (subst (λ (l : List Moved). AreLastSplices c.self.inside.capacity c.self.inside.limits c.self.inside.history.entries l) (sym c.in_ok-splices.ensures) c.self.invariant.holds.last)
