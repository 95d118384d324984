use Rattle.std.proofs.Common.{sym, subst, w64}
use mir.Val.{to_z, of_z}
use Rattle.nv_windows.specs.inside.Seats.{AreSeats}
use Rattle.nv_windows.specs.Workspace.{Workspace}
use Rattle.nv_windows.specs.Kept.{workspace_of}
use Rattle.nv_windows.specs.Sound.{IsSoundWorkspace}
use Rattle.nv_windows.proofs.SoundLaws.{soundness_stays}
use Rattle.nv_windows.proofs.windows.Windows.show_instead.Goals as goal

pub invariant_of-self : goal.invariant_of-self
invariant_of-self c = record {
  sound = subst IsSoundWorkspace (sym c.show_instead.ensures) (soundness_stays.showing_instead (workspace_of c.self.inside.parts) (to_z w64 (of_z w64 c.args.old)) (to_z w64 (of_z w64 c.args.new)) c.self.invariant.sound);
  seats = subst (λ (v : Workspace). AreSeats v c.self.inside.seats.all.items) (sym c.show_instead.ensures) c.self.invariant.seats;
}
