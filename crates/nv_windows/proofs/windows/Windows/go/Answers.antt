use Rattle.std.proofs.Common.{◌≡◌, ◌∙◌, sym, ap, subst, true, w64}
use Rattle.std.proofs.lemmas.Int.{to_z-of_z}
use mir.Val.{to_z, of_z}
use Rattle.nv_windows.specs.Workspace.{Workspace, is_live_window}
use Rattle.nv_windows.specs.Operations.{at_window}
use Rattle.nv_windows.specs.Kept.{workspace_of}
use Rattle.nv_windows.specs.Sound.{IsSoundWorkspace}
use Rattle.nv_windows.proofs.Changed.{homes}
use Rattle.nv_windows.proofs.Soundness.{live_home, at_window_sound}
use Rattle.nv_windows.specs.inside.Seats.{AreSeats}
use Rattle.nv_windows.proofs.Seating.{seats_stay}
use Rattle.nv_windows.proofs.windows.Windows.go.Goals as goal

pub invariant_of-self : goal.invariant_of-self
invariant_of-self c = record {
  sound =
      subst IsSoundWorkspace (sym c.go.ensures) (at_window_sound (workspace_of c.self.inside.parts) (to_z w64 (of_z w64 c.args.window))
      (subst (λ n. homes n (workspace_of c.self.inside.parts).tabpages ≡ 1) (sym (to_z-of_z w64 c.args.window c.ranges.window))
      (live_home (workspace_of c.self.inside.parts) c.args.window c.self.invariant.sound (subst (λ (v : Workspace). is_live_window v c.args.window ≡ true) (sym c.self.view_is) c.requires))) c.self.invariant.sound);
  seats =
      subst (λ (v : Workspace). AreSeats v c.self.inside.seats.all.items) (sym c.go.ensures)
      (seats_stay (workspace_of c.self.inside.parts) (to_z w64 (of_z w64 c.args.window)) c.self.inside.seats.all.items c.self.invariant.seats);
}

pub returns : goal.returns
returns c =
    c.go.ensures ∙ ap (λ w. at_window w (workspace_of c.self.inside.parts)) (to_z-of_z w64 c.args.window c.ranges.window) ∙ ap (at_window c.args.window) c.self.view_is
