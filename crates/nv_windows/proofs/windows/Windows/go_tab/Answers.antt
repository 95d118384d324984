use Rattle.std.proofs.Common.{◌≡◌, ◌<◌, sym, subst, true, w64}
use Rattle.std.proofs.lemmas.Int.{to_z-of_z}
use mir.Val.{to_z, of_z}
use Rattle.nv_windows.specs.inside.Seats.{AreSeats}
use Rattle.nv_windows.specs.Workspace.{Workspace, is_live_tabpage}
use Rattle.nv_windows.specs.Kept.{workspace_of}
use Rattle.nv_windows.specs.Sound.{IsSoundWorkspace, times_among, handles_of_tabpages}
use Rattle.nv_windows.proofs.Soundness.{live_tab_times, at_tabpage_sound}
use Rattle.nv_windows.proofs.windows.Windows.go_tab.Goals as goal

pub invariant_of-self : goal.invariant_of-self
invariant_of-self c = record {
  sound =
      subst IsSoundWorkspace (sym c.go_tab.ensures) (at_tabpage_sound (workspace_of c.self.inside.parts) (to_z w64 (of_z w64 c.args.tabpage))
      (subst (λ n. 0 < times_among n (handles_of_tabpages (workspace_of c.self.inside.parts).tabpages)) (sym (to_z-of_z w64 c.args.tabpage c.ranges.tabpage))
      (live_tab_times c.args.tabpage (workspace_of c.self.inside.parts).tabpages (subst (λ (v : Workspace). is_live_tabpage v c.args.tabpage ≡ true) (sym c.self.view_is) c.requires))) c.self.invariant.sound);
  seats = subst (λ (v : Workspace). AreSeats v c.self.inside.seats.all.items) (sym c.go_tab.ensures) c.self.invariant.seats;
}
