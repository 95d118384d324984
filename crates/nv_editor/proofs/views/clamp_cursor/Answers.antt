use Rattle.std.proofs.Common.{◌≡◌, ℤ, List, true, false, get_or, sym, ap, subst, ◌∙◌, rules, arith, to_z, of_z, w64}
use Rattle.std.specs.Prelude.{pos}
use Rattle.std.specs.Ordering.{int_eq}
use Rattle.nv_windows.specs.Workspace.{is_live_window, window_on}
use Rattle.nv_windows.specs.declared.window.Window.{Window}
use Rattle.nv_editor.proofs.ViewLemmas.{found_at, clamped_at, clamped_not}
use Rattle.nv_editor.proofs.views.clamp_cursor.Goals as goal

pub put_cursor-requires : goal.put_cursor-requires
put_cursor-requires c =
    let w = ap (λ (l : List Window). (get_or l c.args.place (window_on (pos 0) (pos 0))).handle) c.windows.ensures.windows in
    let e : to_z w64 (of_z w64 (get_or c.windows.result.now c.args.place (window_on (pos 0) (pos 0))).handle) ≡ (get_or c.windows.result.now c.args.place (window_on (pos 0) (pos 0))).handle = search rules in
    subst (λ (h : ℤ). is_live_window c.args.windows.now h ≡ true) (sym (e ∙ w)) (found_at c.args.windows.now.windows c.args.place (window_on (pos 0) (pos 0)) c.requires)

pub returns-then-window-buffer : goal.returns-then-window-buffer
returns-then-window-buffer c =
    let e : to_z w64 (of_z w64 (get_or c.windows.result.now c.args.place (window_on (pos 0) (pos 0))).handle) ≡ (get_or c.windows.result.now c.args.place (window_on (pos 0) (pos 0))).handle = search rules in
    clamped_at c.args.windows.now c.put_cursor.new.self c.windows.result.now c.args.place (window_on (pos 0) (pos 0)) c.args.buffer c.args.text.now _ c.cursor_in_line-cursor.result
    c.windows.ensures.windows c.windows.ensures.sound c.requires (search rules) e c.cursor_in_line-cursor.ensures c.put_cursor.ensures

pub returns-else-window-buffer : goal.returns-else-window-buffer
returns-else-window-buffer c =
    clamped_not c.args.windows.now c.windows.result.now c.args.place (window_on (pos 0) (pos 0)) c.args.buffer c.args.text.now
    c.windows.ensures.windows c.requires (search rules)
