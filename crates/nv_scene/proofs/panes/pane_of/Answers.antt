use Rattle.std.proofs.Common.{◌≡◌, Some, ap, sym, subst, ◌∙◌, rules, to_z, of_z, w64}
use Rattle.nv_windows.specs.Workspace.{Workspace, window_at}
use Rattle.nv_model.specs.Editors.{at_handle}
use Rattle.nv_scene.proofs.Shown.{never_dead, shows_text, text_painted}
use Rattle.nv_scene.proofs.panes.pane_of.Goals as goal

pub unreachable-requires-in_default-buffer : goal.unreachable-requires-in_default-buffer
unreachable-requires-in_default-buffer c =
    let e : to_z w64 (of_z w64 c.in-Some.found.now.buffer) ≡ c.in-Some.found.now.buffer = search rules in
    never_dead c.args.editor.now (to_z w64 (of_z w64 c.args.window)) c.in-Some.found.now c.known.ensures
    (subst (λ (ws : Workspace). window_at ws (to_z w64 (of_z w64 c.args.window)) ≡ Some c.in-Some.found.now) c.windows.ensures (sym c.in-Some.ensures))
    (ap (at_handle c.args.editor.now.buffers) (sym e) ∙ c.in_default-buffer.ensures)

pub pane_on-requires-clause-shows : goal.pane_on-requires-clause-shows
pane_on-requires-clause-shows c =
    let e : to_z w64 (of_z w64 c.in-Some.found.now.buffer) ≡ c.in-Some.found.now.buffer = search rules in
    shows_text c.args.editor.now (to_z w64 (of_z w64 c.args.window)) c.in-Some.found.now c.in-Some-buffer.buffer.now c.known.ensures
    (subst (λ (ws : Workspace). window_at ws (to_z w64 (of_z w64 c.args.window)) ≡ Some c.in-Some.found.now) c.windows.ensures (sym c.in-Some.ensures))
    (ap (at_handle c.args.editor.now.buffers) (sym e) ∙ c.in-Some-buffer.ensures)

pub pane_on-requires-clause-painted : goal.pane_on-requires-clause-painted
pane_on-requires-clause-painted c =
    text_painted c.args.editor.now _ c.in-Some-buffer.buffer.now c.known.ensures c.in-Some-buffer.ensures
