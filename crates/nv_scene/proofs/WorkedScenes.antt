-- Worked scenes, computed.
use Rattle.std.proofs.Common.{◌≡◌, ◌-◌, ℕ, suc, ℤ, pos, List, [], ◌∷◌, length, map, min, codes, Some, refl, ap, sym, subst, ◌∙◌, arith}
use Rattle.std.specs.Ordering.{int_eq}
use Rattle.std.proofs.lemmas.List.Sorted.{length_permutation}
use Rattle.nv_places.specs.Flat.{line_at}
use Rattle.nv_marks.specs.declared.extmark.Mark.{Mark}
use Rattle.nv_linedraw.specs.declared.looks.Span.{Span}
use Rattle.nv_hl.specs.Groups.{NamedGroup, attr_along}
use Rattle.nv_layout.specs.Content.{Shape, leaf, group, no_shapes, more_shapes}
use Rattle.nv_layout.specs.Division.{division}
use Rattle.nv_layout.specs.declared.nodes.Axis.TheVariants.{Across}
use Rattle.nv_layout.specs.Places.{rects, separators}
use Rattle.nv_layout.specs.declared.nodes.Placed.{Placed}
use Rattle.nv_layout.specs.declared.nodes.Rect.{Rect}
use Rattle.nv_windows.specs.Rooms.{windows_area, without_status}
use Rattle.nv_windows.specs.Workspace.{Page, Workspace, current_window, plain_leaf, window_at, window_on}
use Rattle.nv_windows.specs.declared.window.Window.{Window}
use Rattle.nv_screen.specs.Screens.{HasLine, HasPanes, first_rect, left_rect, middle_rect, right_rect}
use Rattle.nv_screen.specs.declared.scene.Pane.{Pane}
use Rattle.nv_screen.specs.declared.scene.SceneLine.{SceneLine}
use Rattle.nv_screen.proofs.WorkedScreens.{first_screen_is_drawn, two_windows_are_drawn}
use Rattle.nv_model.specs.Buffers.{marks_of, text_of}
use Rattle.nv_model.specs.Seen.{Seen, SeenBuffer, seen_of}
use Rattle.nv_scene.specs.Laws.{FirstSceneIsDrawn, TwoScenesAreDrawn, editor_of_two, editor_on_screen}
use Rattle.nv_scene.specs.Panes.{AreLinesOf, AreSpansOf, IsPaneIn, IsPaneOf, span_on, status_line_of}
use Rattle.nv_scene.specs.Scenes.{ArePanesIn}

-- ---- panes by rectangles
one_pane : (s : Seen) (at : Placed) (panes : List Pane) → ArePanesIn s (at ∷ []) panes
    → (p : Pane) × (panes ≡ p ∷ []) × IsPaneIn s at.window (without_status at.rect) p
one_pane s at [] are = absurd are
one_pane s at (p ∷ []) are = (p, refl, are.0)
one_pane s at (p ∷ (q ∷ ps)) are = absurd are.1

two_panes : (s : Seen) (at to : Placed) (panes : List Pane) → ArePanesIn s (at ∷ (to ∷ [])) panes
    → (p : Pane) × (q : Pane) × (panes ≡ p ∷ (q ∷ [])) × IsPaneIn s at.window (without_status at.rect) p × IsPaneIn s to.window (without_status to.rect) q
two_panes s at to [] are = absurd are
two_panes s at to (p ∷ ps) are =
    let rest = one_pane s to ps are.1 in
    (p, rest.0, ap (λ (qs : List Pane). p ∷ qs) rest.1, are.0, rest.2)

-- ---- a window over one line without marks
no_order : (ks : List Mark) → length ks ≡ 0 → ks ≡ []
no_order [] e = refl
no_order (k ∷ ks) e = absurd (omega (arith, e))

pub plain_spans : (groups : List NamedGroup) (row len : ℕ) (spans : List Span) → AreSpansOf groups [] row len spans → spans ≡ []
plain_spans groups row len spans are = are.spans_are ∙ ap (map (span_on groups row len)) (no_order are.order (length_permutation [] are.order are.marks_are))

only_line : (ls : List SceneLine) → length ls ≡ 1 → (l : SceneLine) × (ls ≡ l ∷ [])
only_line [] e = absurd (omega (arith, e))
only_line (l ∷ []) e = (l, refl)
only_line (l ∷ (k ∷ ls)) e = absurd (omega (arith, e))

has_line : (s : Seen) (n : ℤ) (rect : Rect) (p : Pane) (w : Window) (b : SeenBuffer) (bytes : List ℕ) (high : ℕ) → IsPaneIn s n rect p
    → window_at s.stage.workspace n ≡ Some w → s.buffer w.buffer ≡ Some b → w.top ≡ 0 → b.lines ≡ bytes ∷ [] → b.marks ≡ [] → b.tabstop ≡ 8 → rect.height ≡ suc high
    → HasLine p rect (int_eq (current_window s.stage.workspace) w.handle) bytes (status_line_of b)
has_line s n rect p w b bytes high is found there top lines marks stop tall =
    let one : Some is.window ≡ Some w = sym is.window_is ∙ found in
    let same : is.window ≡ w = cc in
    let two : Some is.buffer ≡ Some b = sym is.buffer_is ∙ ap (λ (v : Window). s.buffer v.buffer) same ∙ there in
    let equal : is.buffer ≡ b = cc in
    let pane : IsPaneOf s w b rect p =
    subst (λ (c : SeenBuffer). IsPaneOf s w c rect p) equal (subst (λ (v : Window). IsPaneOf s v is.buffer rect p) same is.pane) in
    let count : length p.lines.items ≡ 1 = pane.shown ∙ (λ i. min (tall i) (length (lines i) - top i)) ∙ least high in
    let only = only_line p.lines.items count in
    let line = (subst (AreLinesOf s.stage.groups b w.top) only.1 pane.lines).0 in
    record {
      rect_is = pane.rect_is;
      stop_is = pane.tabstop ∙ stop;
      current_is = pane.current;
      status_is = pane.status;
      line = only.0;
      lines_are = only.1;
      bytes_are = line.bytes_are ∙ (λ i. line_at (lines i) (top i));
      plain =
          plain_spans s.stage.groups w.top _ only.0.spans.items
          (subst (λ (ks : List Mark). AreSpansOf s.stage.groups ks w.top (length (line_at b.lines w.top)) only.0.spans.items) marks line.spans_are);
    }
  where
    least : (n : ℕ) → min (suc n) 1 ≡ 1
    least n = omega arith

-- ---- one window
pub first_scene_is_drawn : FirstSceneIsDrawn
unfolding attr_along text_of marks_of
first_scene_is_drawn limits scene is =
    let s : Seen = seen_of (editor_on_screen limits 12 4) in
    let page : Page = record { handle = pos 1; tree = plain_leaf (pos 1000); current = pos 1000 } in
    let one : Some is.page ≡ Some page = sym is.page_is in
    let same : is.page ≡ page = cc in
    let at : Placed = record { window = pos 1000; rect = record { row = 0; col = 0; width = 12; height = 3 } } in
    let panes : ArePanesIn s (at ∷ []) scene.panes.items =
    subst (λ (t : Page). ArePanesIn s (rects t.tree (windows_area s.stage.workspace)) scene.panes.items) same is.panes in
    let shown = one_pane s at scene.panes.items panes in
    let has : HasPanes scene 12 4 (shown.0 ∷ []) [] = record {
      width_is = is.width;
      height_is = is.height;
      panes_are = shown.1;
      separators_are = is.separators ∙ ap (λ (t : Page). separators t.tree (windows_area s.stage.workspace)) same;
      looks_are = is.looks;
      bars_are = is.bars;
      no_patches = is.patches;
    } in
    first_screen_is_drawn scene shown.0 has
    (has_line s (pos 1000) first_rect shown.0 (window_on (pos 1000) (pos 1)) _ [] 1 shown.2 refl refl refl refl refl refl refl)

-- ---- two windows
pub two_scenes_are_drawn : TwoScenesAreDrawn
unfolding division attr_along text_of marks_of
two_scenes_are_drawn limits scene is =
    let s : Seen = seen_of (editor_of_two limits) in
    let ws : Workspace = s.stage.workspace in
    let leaf_of : ℤ → Shape = λ n. leaf (record { window = n; width = 0; height = 0 }) in
    let page : Page = record {
      handle = pos 1;
      tree = group Across (more_shapes (leaf_of (pos 1000)) (more_shapes (leaf_of (pos 1001)) no_shapes));
      current = pos 1000;
    } in
    let one : Some is.page ≡ Some page = sym is.page_is in
    let same : is.page ≡ page = cc in
    let at : Placed = record { window = pos 1000; rect = record { row = 0; col = 0; width = 40; height = 23 } } in
    let to : Placed = record { window = pos 1001; rect = record { row = 0; col = 41; width = 39; height = 23 } } in
    let panes : ArePanesIn s (at ∷ (to ∷ [])) scene.panes.items =
    subst (λ (t : Page). ArePanesIn s (rects t.tree (windows_area ws)) scene.panes.items) same is.panes in
    let shown = two_panes s at to scene.panes.items panes in
    let has : HasPanes scene 80 24 (shown.0 ∷ (shown.1 ∷ [])) (middle_rect ∷ []) = record {
      width_is = is.width;
      height_is = is.height;
      panes_are = shown.2;
      separators_are = is.separators ∙ ap (λ (t : Page). separators t.tree (windows_area ws)) same;
      looks_are = is.looks;
      bars_are = is.bars;
      no_patches = is.patches;
    } in
    two_windows_are_drawn scene shown.0 shown.1 has
    (has_line s (pos 1000) left_rect shown.0 (window_on (pos 1000) (pos 1)) _ (codes "ab") 21 shown.3 refl refl refl refl refl refl refl)
    (has_line s (pos 1001) right_rect shown.1 (window_on (pos 1001) (pos 1)) _ (codes "ab") 21 shown.4 refl refl refl refl refl refl refl)
