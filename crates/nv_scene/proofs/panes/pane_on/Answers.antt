use Rattle.std.proofs.Common.{◌≡◌, ℕ, ◌+◌, ◌^◌, ◌<◌, List, length, min, All, refl, ap, sym, subst, ◌∙◌, rules, to_z, of_z, w64}
use Rattle.std.specs.Ordering.{int_eq}
use Rattle.nv_windows.specs.Workspace.{current_window}
use Rattle.nv_model.specs.Standing.{seen_buffer_now}
use Rattle.nv_scene.specs.Panes.{AreLinesOf}
use Rattle.nv_scene.proofs.Lined.{lines_shown, tick_is}
use Rattle.nv_hl.specs.Groups.{NamedGroup}
use Rattle.nv_marks.specs.Marks.{Marks}
use Rattle.nv_marks.specs.declared.extmark.Mark.{Mark}
use Rattle.nv_editor.specs.Sound.{IsOfGroups}
use Rattle.nv_scene.specs.inside.Painting.{AreLaid}
use Rattle.nv_scene.proofs.Painted.{laid_all}
use Rattle.nv_scene.proofs.panes.pane_on.Goals as goal

pub scene_lines-requires-clause-groups : goal.scene_lines-requires-clause-groups
scene_lines-requires-clause-groups c =
    let laid : AreLaid c.args.window.top c.min-behind.result c.args.buffer.now.marks.marks c.in_ok-marks.marks.items =
    subst (λ (m : Marks). AreLaid c.args.window.top c.min-behind.result m.marks c.in_ok-marks.marks.items) c.marks.ensures.value c.in_ok-marks.ensures in
    subst (λ (l : List Mark). All (IsOfGroups c.groups.result.now) l) (sym c.as_slice.ensures.value)
    (subst (λ (gs : List NamedGroup). All (IsOfGroups gs) c.in_ok-marks.marks.items) (sym c.groups.ensures)
    (laid_all (IsOfGroups c.args.editor.now.stage.groups) c.args.window.top c.min-behind.result c.args.buffer.now.marks.marks c.in_ok-marks.marks.items laid c.requires.painted))

pub returns-clause-pane : goal.returns-clause-pane
returns-clause-pane c =
    let narrow : length c.args.buffer.now.text < 2 ^ 32 = subst (λ (t : List (List ℕ)). length t < 2 ^ 32) c.text.ensures.value c.text.ensures.narrow.count in
    let counted : c.count-count.result ≡ length c.args.buffer.now.text = c.count-count.ensures.value ∙ ap (λ (t : List (List ℕ)). length t) c.text.ensures.value in
    let most : c.min-behind.result ≡ min (min (c.args.window.top + c.args.rect.height) 4294967295) c.count-count.result = search rules in
    let handle : to_z w64 (of_z w64 c.args.window.handle) ≡ c.args.window.handle = search rules in
    let shown : to_z w64 (of_z w64 c.args.window.buffer) ≡ c.args.window.buffer = search rules in
    let ticks : to_z w64 (of_z w64 c.tick.result) ≡ c.tick.result = search rules in
    record {
      window = handle;
      buffer = shown;
      tick = ticks ∙ c.tick.ensures ∙ tick_is c.args.buffer.now.tick _ c.known.ensures.buffer.counted;
      tabstop = c.tabstop.ensures.value;
      rect_is = refl;
      top = refl;
      current = c.is_current.ensures ∙ ap (int_eq (current_window c.args.editor.now.stage.workspace)) handle;
      count = counted;
      shown =
          c.in_ok-lines.ensures.count
          ∙ lines_shown c.args.window.top c.args.rect.height (length c.args.buffer.now.text) c.min-behind.result c.requires.shows.top narrow
          (most ∙ ap (min (min (c.args.window.top + c.args.rect.height) 4294967295)) counted);
      lines = subst (λ (gs : List NamedGroup). AreLinesOf gs (seen_buffer_now c.args.buffer.now) c.args.window.top c.in_ok-lines.lines.items) c.groups.ensures c.in_ok-lines.ensures.lines;
      status = c.in_ok-status.ensures;
    }
