-- A scene of an editor, made of what is seen.
use Rattle.std.proofs.Common.{◌≡◌, ℕ, zero, suc, ℤ, pos, ◌+◌, ◌-◌, ◌*◌, ◌^◌, ◌<◌, ◌≤◌, true, false, true≢false, List, [], ◌∷◌, length, map, min, All, Option, Some, None, filter, is_some, option_map, refl, sym, ap, subst, arith, le_refl, mul-le-mul}
use Rattle.std.specs.Global.{Global, Vec}
use Rattle.std.specs.Ordering.{int_eq}
use Rattle.std.proofs.lemmas.List.{length-map}
use Rattle.std.proofs.lemmas.List.Elements.{All-cons, All-head, All-nil, All-tail}
use Rattle.std.proofs.lemmas.List.Sorted.{length_permutation}
use Rattle.nv_places.specs.Flat.{line_at}
use Rattle.nv_hl.specs.Groups.{NamedGroup}
use Rattle.nv_buffer.specs.Content.{Content}
use Rattle.nv_layout.specs.Content.{Shape}
use Rattle.nv_layout.specs.Least.{least, leaves_of}
use Rattle.nv_layout.specs.Places.{rects, separators}
use Rattle.nv_layout.specs.Tiling.{LiesIn, areas}
use Rattle.nv_layout.specs.declared.nodes.Axis.TheVariants.{Across, Down}
use Rattle.nv_layout.specs.declared.nodes.Placed.{Placed}
use Rattle.nv_layout.specs.declared.nodes.Rect.{Rect}
use Rattle.nv_layout.proofs.Apart.{rects_lie_in_area}
use Rattle.nv_layout.proofs.Naming.{length-rects}
use Rattle.nv_windows.specs.Rooms.{windows_area, without_status}
use Rattle.nv_windows.specs.Workspace.{Page, Workspace, current_window, is_live_window, tabpage_at, window_at}
use Rattle.nv_windows.specs.declared.window.Window.{Window}
use Rattle.nv_screen.specs.declared.scene.Pane.{Pane}
use Rattle.nv_screen.specs.declared.scene.Patch.{Patch}
use Rattle.nv_screen.specs.declared.scene.Scene.{Scene}
use Rattle.nv_screen.specs.declared.scene.SceneLine.{SceneLine}
use Rattle.nv_model.specs.Editors.{at_handle}
use Rattle.nv_model.specs.Seen.{Seen, SeenBuffer}
use Rattle.nv_model.specs.Standing.{PresentEditor, seen_buffer_now, seen_now}
use Rattle.nv_model.proofs.Seeing.{seen_is_same}
use Rattle.nv_editor.proofs.Updating.{looked_up}
use Rattle.nv_scene.specs.Panes.{AreLinesOf, IsLineOf, IsPaneIn, shows_on, span_on, status_line_of}
use Rattle.nv_scene.specs.Scenes.{ArePanesIn, IsSceneOf, bars_of, looks_of, normal_colours, spot_of}
use Rattle.nv_scene.proofs.Living.{current_there, page_sound, page_there, tree_live}
use Rattle.nv_scene.proofs.Painted.{fewer_pass}
use Rattle.nv_scene.proofs.SceneSound.{scene_sound}
use Rattle.nv_scene.proofs.Shown.{never_dead}
use Rattle.nv_scene_laws.specs.Laws.{CanBeShown, EditorsHaveScenes, HasScene, ModelsHaveScenes}
use Rattle.nv_scene_laws.proofs.Few.{bars_few, leaves_few}
use Rattle.nv_scene_laws.proofs.Sorting.{in_paint_order, order_moves, order_rises}
use denote.RawPtr.{null_ptr}

few_cells : (m n : ℕ) → m ≤ 2 ^ 16 → n ≤ 2 ^ 16 → m * n ≤ 2 ^ 32
few_cells m n wide high =
    let product : m * n ≤ 2 ^ 16 * 2 ^ 16 = mul-le-mul wide high in
    omega (arith, product)

some_of : {X : Type 0} (o : Option X) → is_some o ≡ true → (x : X) × (o ≡ Some x)
some_of None h = absurd (true≢false (sym h))
some_of (Some x) h = (x, refl)

there_of : {X : Type 0} (o : Option X) → (o ≡ None → ⊥) → (x : X) × (o ≡ Some x)
there_of None h = absurd (h refl)
there_of (Some x) h = (x, refl)

module _ (alloc : Global) where
  abbrev vec_of : {X : Type 0} (xs : List X) → length xs < 2 ^ 63 → Vec X
  vec_of xs small = record { ptr = null_ptr; len = length xs; cap = length xs; alloc = alloc; items = xs; ok = (refl, le_refl (length xs)); small = small }

  -- ---- lines

  line_of : (groups : List NamedGroup) (b : SeenBuffer) (row : ℕ) → length b.marks < 2 ^ 63 → (line : SceneLine) × IsLineOf groups b row line
  line_of groups b row few =
      let bytes = line_at b.lines row in
      let marks = filter (shows_on row (length bytes)) b.marks in
      let order = in_paint_order marks in
      let spans = map (span_on groups row (length bytes)) order in
      let small : length spans < 2 ^ 63 =
      omega (arith, few, length-map order (span_on groups row (length bytes)), length_permutation marks order (order_moves marks), fewer_pass (shows_on row (length bytes)) b.marks) in (
        record { row = row; bytes = bytes; spans = vec_of spans small },
        record {
          row_is = refl;
          bytes_are = refl;
          spans_are = record { order = order; marks_are = order_moves marks; rising = order_rises marks; spans_are = refl };
        },
      )

  lines_of_rows : (groups : List NamedGroup) (b : SeenBuffer) (row k : ℕ) → length b.marks < 2 ^ 63
      → (lines : List SceneLine) × (length lines ≡ k) × AreLinesOf groups b row lines
  lines_of_rows groups b row zero few = ([], refl, tt)
  lines_of_rows groups b row (suc k) few =
      let line = line_of groups b row few in
      let more = lines_of_rows groups b (suc row) k few in
      (line.0 ∷ more.0, ap suc more.1, (line.1, more.2))

  module _ (e : PresentEditor) (shown : CanBeShown e) where
    -- ---- panes

    pane_of_window : (n : ℤ) (rect : Rect) → rect.height < 2 ^ 63 → is_live_window e.stage.workspace n ≡ true
        → (p : Pane) × IsPaneIn (seen_now e) n rect p × (0 < p.tabstop)
    pane_of_window n rect low live =
        let s : Seen = seen_now e in
        let window = some_of (window_at e.stage.workspace n) live in
        let w : Window = window.0 in
        let there = there_of (at_handle e.buffers w.buffer) (never_dead e n w shown.sound window.1) in
        let b : SeenBuffer = seen_buffer_now there.0 in
        let few : length b.marks < 2 ^ 63 = looked_up (λ (c : Content). length c.marks.marks < 2 ^ 63) e.buffers w.buffer there.0 shown.few there.1 in
        let stop : 0 < b.tabstop = looked_up (λ (c : Content). 0 < c.tabstop) e.buffers w.buffer there.0 shown.stops there.1 in
        let lines = lines_of_rows s.stage.groups b w.top (min rect.height (length b.lines - w.top)) few in
        let small : length lines.0 < 2 ^ 63 = omega (arith, low, lines.1) in (
          record {
            window = w.handle;
            buffer = w.buffer;
            tick = pos b.tick;
            tabstop = b.tabstop;
            rect = rect;
            top = w.top;
            current = int_eq (current_window s.stage.workspace) w.handle;
            count = length b.lines;
            lines = vec_of lines.0 small;
            status = status_line_of b;
          },
          record {
            window = w;
            buffer = b;
            window_is = window.1;
            buffer_is = ap (option_map seen_buffer_now) there.1;
            pane = record {
              window = refl;
              buffer = refl;
              tick = refl;
              tabstop = refl;
              rect_is = refl;
              top = refl;
              current = refl;
              count = refl;
              shown = lines.1;
              lines = lines.2;
              status = refl;
            };
          },
          stop,
        )

    panes_of : (placed : List Placed) → All (λ (at : Placed). is_live_window e.stage.workspace at.window ≡ true) placed → All (λ (r : Rect). r.height < 2 ^ 63) (areas placed)
        → (panes : List Pane) × (length panes ≡ length placed) × ArePanesIn (seen_now e) placed panes × All (λ (p : Pane). 0 < p.tabstop) panes
    panes_of [] live low = ([], refl, tt, All-nil (λ (p : Pane). 0 < p.tabstop))
    panes_of (at ∷ more) live low =
        let high : at.rect.height < 2 ^ 63 = All-head (λ (r : Rect). r.height < 2 ^ 63) at.rect (areas more) low in
        let first = pane_of_window at.window (without_status at.rect) (omega (arith, high)) (All-head (λ (a : Placed). is_live_window e.stage.workspace a.window ≡ true) at more live) in
        let rest =
        panes_of more (All-tail (λ (a : Placed). is_live_window e.stage.workspace a.window ≡ true) at more live) (All-tail (λ (r : Rect). r.height < 2 ^ 63) at.rect (areas more) low) in
        (first.0 ∷ rest.0, ap suc rest.1, (first.1, rest.2), All-cons (λ (p : Pane). 0 < p.tabstop) first.0 rest.0 first.2 rest.3)

    -- ---- the scene

    low_areas : (area : Rect) → area.row + area.height < 2 ^ 63 → (rs : List Rect) → All (LiesIn area) rs → All (λ (r : Rect). r.height < 2 ^ 63) rs
    low_areas area low [] all = All-nil (λ (r : Rect). r.height < 2 ^ 63)
    low_areas area low (r ∷ rs) all =
        let here = All-head (LiesIn area) r rs all in
        All-cons (λ (q : Rect). q.height < 2 ^ 63) r rs (omega (arith, low, here.bottom)) (low_areas area low rs (All-tail (LiesIn area) r rs all))

    -- panes and separators, with all else as it is seen
    abbrev made_scene : (w : Window) (panes : List Pane) → length panes < 2 ^ 63 → (bars : List Rect) → length bars < 2 ^ 63 → Scene
    made_scene w panes few_panes bars few_bars = record {
      width = e.stage.workspace.width;
      height = e.stage.workspace.height;
      panes = vec_of panes few_panes;
      separators = vec_of bars few_bars;
      cursor = spot_of w;
      looks = looks_of e.stage.groups;
      bars = bars_of e.stage.groups;
      colours = normal_colours e.stage.groups;
      patches = vec_of {X = Patch} [] (omega arith);
    }

    made_shows : (page : Page) (w : Window) (panes : List Pane) (few_panes : length panes < 2 ^ 63) (few_bars : length (separators page.tree (windows_area e.stage.workspace)) < 2 ^ 63)
        → tabpage_at e.stage.workspace e.stage.workspace.tabpage ≡ Some page → window_at e.stage.workspace (current_window e.stage.workspace) ≡ Some w
        → ArePanesIn (seen_now e) (rects page.tree (windows_area e.stage.workspace)) panes
        → IsSceneOf (seen_now e) (made_scene w panes few_panes (separators page.tree (windows_area e.stage.workspace)) few_bars)
    made_shows page w panes few_panes few_bars page_is window_is are = record {
      page = page;
      window = w;
      page_is = page_is;
      window_is = window_is;
      width = refl;
      height = refl;
      panes = are;
      separators = refl;
      cursor = refl;
      looks = refl;
      bars = refl;
      colours = refl;
      patches = refl;
    }

    pub scene_there : HasScene (seen_now e)
    scene_there =
        let ws : Workspace = e.stage.workspace in
        let sound = shown.sound.workspace in
        let page = there_of (tabpage_at ws ws.tabpage) (page_there ws sound) in
        let window = there_of (window_at ws (current_window ws)) (current_there ws sound) in
        let t : Shape = page.0.tree in
        let area : Rect = windows_area ws in
        let is_page = page_sound ws page.0 sound page.1 in
        let panes =
        panes_of (rects t area) (tree_live ws page.0 sound page.1 area)
        (low_areas area (omega (arith, sound.height)) (areas (rects t area)) (rects_lie_in_area t area is_page.filled is_page.roomy)) in
        let room : least Across t * least Down t ≤ 2 ^ 32 =
        few_cells (least Across t) (least Down t) (omega (arith, is_page.roomy.wide, sound.width)) (omega (arith, is_page.roomy.high, sound.height)) in
        let windows : length (leaves_of t) ≤ 2 ^ 32 = omega (arith, room, leaves_few t) in
        let few_panes : length panes.0 < 2 ^ 63 = omega (arith, panes.1, length-rects t area, windows) in
        let few_bars : length (separators t area) < 2 ^ 63 = omega (arith, bars_few t area is_page.filled, windows) in
        let scene = made_scene window.0 panes.0 few_panes (separators t area) few_bars in
        let shows = made_shows page.0 window.0 panes.0 few_panes few_bars page.1 window.1 panes.2 in
        record { scene = scene; shows = shows; sound = scene_sound e scene shown.sound shown.settled shows panes.3 }

pub editors_have_scenes : EditorsHaveScenes
editors_have_scenes alloc e shown = scene_there alloc e shown

pub models_have_scenes : ModelsHaveScenes
models_have_scenes alloc e m shown stands = subst HasScene (seen_is_same e m stands) (scene_there alloc e shown)
