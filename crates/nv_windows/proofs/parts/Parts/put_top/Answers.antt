use Rattle.std.proofs.Common.{◌≡◌, ◌∙◌, w64, ◌++◌, take, drop, length, arith}
use Rattle.nv_windows.proofs.Mapped.{all_put, length_with}
use Rattle.std.proofs.lemmas.Int.{to_z-of_z}
use Rattle.nv_windows.specs.Workspace.{Workspace}
use Rattle.nv_windows.specs.Kept.{workspace_of}
use Rattle.nv_windows.specs.Operations.{windows_with}
use Rattle.nv_windows.specs.declared.window.Window.{Window}
use Rattle.nv_windows.proofs.parts.Parts.put_top.Goals as goal

pub returns : goal.returns
returns c =
    let old : Workspace = workspace_of c.args.self.now in
    let windows : c.put_top.new.windows ≡ windows_with c.args.window (λ (w : Window). record w { top = c.args.row }) old.windows =
    c.put_top.ensures ∙ (λ i. windows_with (to_z-of_z w64 c.args.window c.ranges.window i) (λ (w : Window). record w { top = c.args.row }) (c.deref_mut.ensures.value i)) in
    let whole : take c.args.self.now.windows.len (c.put_top.new.windows ++ drop (length c.put_top.new.windows) c.args.self.now.windows.items) ≡ c.put_top.new.windows =
    all_put c.args.self.now.windows.len c.put_top.new.windows c.args.self.now.windows.items (omega (arith, length_with c.args.window (λ (w : Window). record w { top = c.args.row }) old.windows c.put_top.new.windows windows, c.args.self.now.windows.ok.0)) in
    λ i. record old { windows = (whole ∙ windows) i }
