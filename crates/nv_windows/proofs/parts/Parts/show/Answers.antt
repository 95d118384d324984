use Rattle.std.proofs.Common.{◌≡◌, ◌∙◌, w64, ◌++◌, take, drop, length, arith}
use Rattle.nv_windows.proofs.Mapped.{all_put, length_with}
use Rattle.std.proofs.lemmas.Int.{to_z-of_z}
use Rattle.nv_windows.specs.Workspace.{Workspace, window_on}
use Rattle.nv_windows.specs.Kept.{workspace_of}
use Rattle.nv_windows.specs.Operations.{windows_with}
use Rattle.nv_windows.specs.declared.window.Window.{Window}
use Rattle.nv_windows.proofs.parts.Parts.show.Goals as goal

pub returns : goal.returns
returns c =
    let old : Workspace = workspace_of c.args.self.now in
    let windows : c.show.new.windows ≡ windows_with c.args.window (λ (w : Window). window_on w.handle c.args.buffer) old.windows =
    c.show.ensures ∙ (λ i. windows_with (to_z-of_z w64 c.args.window c.ranges.window i) (λ (w : Window). window_on w.handle (to_z-of_z w64 c.args.buffer c.ranges.buffer i)) (c.deref_mut.ensures.value i)) in
    let whole : take c.args.self.now.windows.len (c.show.new.windows ++ drop (length c.show.new.windows) c.args.self.now.windows.items) ≡ c.show.new.windows =
    all_put c.args.self.now.windows.len c.show.new.windows c.args.self.now.windows.items (omega (arith, length_with c.args.window (λ (w : Window). window_on w.handle c.args.buffer) old.windows c.show.new.windows windows, c.args.self.now.windows.ok.0)) in
    λ i. record old { windows = (whole ∙ windows) i }
