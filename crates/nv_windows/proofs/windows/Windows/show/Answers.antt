use Rattle.std.proofs.Common.{◌∙◌, sym, ap, subst, w64}
use Rattle.std.proofs.lemmas.Int.{to_z-of_z}
use mir.Val.{to_z, of_z}
use Rattle.nv_windows.specs.inside.Seats.{AreSeats}
use Rattle.nv_windows.specs.Workspace.{Workspace}
use Rattle.nv_windows.specs.Operations.{with_buffer_in}
use Rattle.nv_windows.specs.Kept.{workspace_of}
use Rattle.nv_windows.specs.Sound.{IsSoundWorkspace}
use Rattle.nv_windows.proofs.SoundLaws.{soundness_stays}
use Rattle.nv_windows.proofs.windows.Windows.show.Goals as goal

pub invariant_of-self : goal.invariant_of-self
invariant_of-self c = record {
  sound = subst IsSoundWorkspace (sym c.show.ensures) (soundness_stays.showing (workspace_of c.self.inside.parts) (to_z w64 (of_z w64 c.args.window)) (to_z w64 (of_z w64 c.args.buffer)) c.self.invariant.sound);
  seats = subst (λ (v : Workspace). AreSeats v c.self.inside.seats.all.items) (sym c.show.ensures) c.self.invariant.seats;
}

pub returns : goal.returns
returns c =
    c.show.ensures ∙ (λ i. with_buffer_in (to_z-of_z w64 c.args.window c.ranges.window i) (to_z-of_z w64 c.args.buffer c.ranges.buffer i) (workspace_of c.self.inside.parts))
    ∙ ap (with_buffer_in c.args.window c.args.buffer) c.self.view_is
