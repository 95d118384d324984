-- The current buffer.
use Rattle.std.proofs.Common.{◌≡◌, ℤ, pos, Option, Some, refl, sym, ap, ◌∙◌}
use Rattle.std.specs.Option.{option_map_or}
use Rattle.nv_windows.specs.Workspace.{Workspace, current_buffer, current_window, window_at}
use Rattle.nv_windows.specs.declared.window.Window.{Window}

pub shown_by : (ws : Workspace) (h : ℤ) (o : Option Window) → h ≡ current_window ws → o ≡ window_at ws h
    → option_map_or (λ (w : Window). w.buffer) o (pos 0) ≡ current_buffer ws
shown_by ws h o is there =
    ap (λ (p : Option Window). option_map_or (λ (w : Window). w.buffer) p (pos 0)) (there ∙ ap (window_at ws) is)
