use Rattle.std.proofs.Common.{sym, subst, w64, All}
use Rattle.std.proofs.lemmas.Int.{to_z-of_z}
use mir.Val.{to_z, of_z}
use Rattle.nv_windows.specs.inside.Seats.{AreSeats}
use Rattle.nv_windows.specs.Workspace.{Workspace}
use Rattle.nv_windows.specs.Views.{MovesNarrowlyIn}
use Rattle.nv_windows.specs.Kept.{workspace_of}
use Rattle.nv_windows.specs.Sound.{IsSoundWorkspace}
use Rattle.nv_windows.proofs.SoundLaws.{soundness_stays}
use Rattle.nv_windows.proofs.windows.Windows.splice.Goals as goal

pub invariant_of-self : goal.invariant_of-self
invariant_of-self c = record {
  sound = subst IsSoundWorkspace (sym c.splice.ensures) (soundness_stays.splice (workspace_of c.self.inside.parts) (to_z w64 (of_z w64 c.args.buffer)) (record { start = c.args.start; old = c.args.old; new = c.args.new; count = c.args.count }) c.self.invariant.sound);
  seats = subst (λ (v : Workspace). AreSeats v c.self.inside.seats.all.items) (sym c.splice.ensures) c.self.invariant.seats;
}

pub splice-requires-clause-moved : goal.splice-requires-clause-moved
splice-requires-clause-moved c =
    subst (λ n. All (MovesNarrowlyIn n (record { start = c.args.start; old = c.args.old; new = c.args.new; count = c.args.count })) c.self.inside.parts.windows.items) (sym (to_z-of_z w64 c.args.buffer c.ranges.buffer))
    (subst (λ (v : Workspace). All (MovesNarrowlyIn c.args.buffer (record { start = c.args.start; old = c.args.old; new = c.args.new; count = c.args.count })) v.windows) (sym c.self.view_is) c.requires.moved)
