-- The scene of an editor is sound.
use Rattle.std.proofs.Common.{◌≡◌, ℕ, zero, suc, ℤ, ◌+◌, ◌-◌, ◌*◌, ◌<◌, ◌≤◌, Bool, true, false, cond, List, [], ◌∷◌, ◌++◌, length, map, take, drop, min, All, Option, Some, None, refl, ap, sym, subst, ◌∙◌, arith}
use Rattle.std.specs.Prelude.{MatchOption, find, option_map, option_and_then, slice_range, if◌then◌else◌}
use Rattle.std.specs.List.{AllByRecursion, IsDistinct}
use Rattle.std.specs.Ordering.{int_eq}
use Rattle.std.proofs.lemmas.Bool.Decides.{nat_tests}
use Rattle.std.proofs.lemmas.Int.{ints}
use Rattle.std.proofs.lemmas.List.Elements.{All-head, All-tail}
use Rattle.std.proofs.lemmas.Map.Keys.{IsDistinct-cons, IsDistinct-from_apart}
use Rattle.nv_places.specs.Flat.{line_at}
use Rattle.nv_hl.specs.Groups.{NamedGroup}
use Rattle.nv_layout.specs.Content.{Shape}
use Rattle.nv_layout.specs.Division.{total}
use Rattle.nv_layout.specs.Least.{leaves_of}
use Rattle.nv_layout.specs.Places.{rects, rect_among, separators}
use Rattle.nv_layout.specs.Tiling.{LiesIn, areas, in_rect, in_span, times_in, windows}
use Rattle.nv_layout.specs.declared.nodes.Axis.TheVariants.{Across, Down}
use Rattle.nv_layout.specs.declared.nodes.Placed.{Placed}
use Rattle.nv_layout.specs.declared.nodes.Rect.{Rect}
use Rattle.nv_layout.proofs.Apart.{rects_have_least_size, rects_lie_in_area}
use Rattle.nv_layout.proofs.Spans.{times_in-append}
use Rattle.nv_layout.proofs.Tilings.{rects_tile}
use Rattle.nv_layout.proofs.Naming.{rects_name_windows}
use Rattle.nv_linedraw.specs.LineCells.{no_looks, rows_of_line}
use Rattle.nv_linedraw.proofs.WholeLemmas.{rows_are_whole}
use Rattle.nv_windows.specs.Rooms.{rect_in, text_area, windows_area, without_status}
use Rattle.nv_windows.specs.Sound.{times_among}
use Rattle.nv_windows.specs.Workspace.{Page, Workspace, window_at}
use Rattle.nv_windows.specs.declared.window.Window.{Window}
use Rattle.nv_windows.proofs.Changed.{found_passes}
use Rattle.nv_windows.proofs.Counting.{held_some}
use Rattle.nv_windows.proofs.Soundness.{once_self}
use Rattle.nv_buffer.specs.Content.{Content}
use Rattle.nv_screen.specs.Cursor.{bytes_at}
use Rattle.nv_screen.specs.Sound.{AreInRows, HasCursor, IsSoundPane, IsSoundScene, IsSoundSpot, pane_area, scene_areas, whole_screen}
use Rattle.nv_screen.specs.declared.scene.Pane.{Pane}
use Rattle.nv_screen.specs.declared.scene.Scene.{Scene}
use Rattle.nv_screen.specs.declared.scene.SceneLine.{SceneLine}
use Rattle.nv_model.specs.Editors.{at_handle}
use Rattle.nv_model.specs.Seen.{Seen, SeenBuffer}
use Rattle.nv_model.specs.Standing.{PresentEditor, seen_buffer_now, seen_now}
use Rattle.nv_model.proofs.Lookups.{same_int}
use Rattle.nv_editor.specs.Sound.{IsSoundEditor, ShowsBuffer, ShowsText}
use Rattle.nv_scene.specs.Laws.{IsWindowOn, ShowsCursor}
use Rattle.nv_scene.specs.Panes.{AreLinesOf, IsPaneIn, IsPaneOf}
use Rattle.nv_scene.specs.Scenes.{ArePanesIn, IsSceneOf, spot_of}
use Rattle.nv_scene.specs.Settling.{IsSettled, line_heights}
use Rattle.nv_scene.proofs.Areas.{all_found, area_sound}
use Rattle.nv_scene.proofs.Bars.{IsBar, bars, both_all, lies_wider, some_least, weaker_all}
use Rattle.nv_scene.proofs.Living.{current_home, current_is, page_once, page_sound}
use Rattle.nv_scene.proofs.SettlingLaws.{settled_show_cursors}
use Rattle.nv_scene.proofs.Shown.{window_shows}

-- ---- panes
abbrev IsLarge : Rect → Type 0
IsLarge r = (1 ≤ r.width) × (2 ≤ r.height)

named_so : (ws : Workspace) (n : ℤ) (w : Window) → window_at ws n ≡ Some w → w.handle ≡ n
named_so ws n w e =
    same_int w.handle n (found_passes (λ (v : Window). int_eq v.handle n) (λ (v : Window). Unit {0}) ws.windows w e (λ k d h. tt)).1

pane_named : (s : Seen) (n : ℤ) (rect : Rect) (p : Pane) → IsPaneIn s n rect p → p.window ≡ n
pane_named s n rect p is = is.pane.window ∙ named_so s.stage.workspace n is.window is.window_is

rows_shown : (groups : List NamedGroup) (b : SeenBuffer) (row : ℕ) (ls : List SceneLine) → AreLinesOf groups b row ls → AreInRows row ls
rows_shown groups b row [] are = tt
rows_shown groups b row (l ∷ ls) are =
    let more : suc row ≡ row + 1 = omega arith in
    (are.0.row_is, subst (λ (n : ℕ). AreInRows n ls) more (rows_shown groups b (suc row) ls are.1))

pane_sound : (s : Seen) (w : Window) (b : SeenBuffer) (rect : Rect) (p : Pane) → IsPaneOf s w b rect p → 0 < rect.width → 0 < rect.height → 0 < p.tabstop → IsSoundPane p
pane_sound s w b rect p is wide high stop = record {
  wide = subst (λ (r : Rect). 0 < r.width) (sym is.rect_is) wide;
  high = subst (λ (r : Rect). 0 < r.height) (sym is.rect_is) high;
  stop = stop;
  count = is.shown ∙ (λ i. min (sym is.rect_is i).height (sym is.count i - sym is.top i));
  rows = subst (λ (n : ℕ). AreInRows n p.lines.items) (sym is.top) (rows_shown s.stage.groups b w.top p.lines.items is.lines);
}

panes_sound : (s : Seen) (placed : List Placed) (panes : List Pane) → ArePanesIn s placed panes → All IsLarge (areas placed) → All (λ (p : Pane). 0 < p.tabstop) panes
    → AllByRecursion IsSoundPane panes
panes_sound s [] [] are large stops = tt
panes_sound s [] (p ∷ ps) are large stops = absurd are
panes_sound s (at ∷ more) [] are large stops = absurd are
panes_sound s (at ∷ more) (p ∷ ps) are large stops =
    let here = All-head IsLarge at.rect (areas more) large in (
      pane_sound s are.0.window are.0.buffer (without_status at.rect) p are.0.pane (omega (arith, here.0)) (omega (arith, here.1))
          (All-head (λ (q : Pane). 0 < q.tabstop) p ps stops),
      panes_sound s more ps are.1 (All-tail IsLarge at.rect (areas more) large) (All-tail (λ (q : Pane). 0 < q.tabstop) p ps stops),
    )

areas_are : (s : Seen) (placed : List Placed) (panes : List Pane) → ArePanesIn s placed panes → All IsLarge (areas placed) → map pane_area panes ≡ areas placed
areas_are s [] [] are large = refl
areas_are s [] (p ∷ ps) are large = absurd are
areas_are s (at ∷ more) [] are large = absurd are
areas_are s (at ∷ more) (p ∷ ps) are large =
    let high : at.rect.height - 1 + 1 ≡ at.rect.height = omega (arith, (All-head IsLarge at.rect (areas more) large).1) in
    let same : pane_area p ≡ at.rect =
    ap (λ (r : Rect). record r { height = r.height + 1 }) are.0.pane.rect_is ∙ (λ i. record at.rect { height = high i }) in
    let rest = areas_are s more ps are.1 (All-tail IsLarge at.rect (areas more) large) in
    λ i. same i ∷ rest i

windows_are : (s : Seen) (placed : List Placed) (panes : List Pane) → ArePanesIn s placed panes → map (λ (p : Pane). p.window) panes ≡ map (λ (p : Placed). p.window) placed
windows_are s [] [] are = refl
windows_are s [] (p ∷ ps) are = absurd are
windows_are s (at ∷ more) [] are = absurd are
windows_are s (at ∷ more) (p ∷ ps) are =
    let here = pane_named s at.window (without_status at.rect) p are.0 in
    let rest = windows_are s more ps are.1 in
    λ i. here i ∷ rest i

-- ---- no window twice, no cell twice
other_way : (a b : ℤ) → int_eq b a ≡ false → int_eq a b ≡ false
other_way a b e = grind (arith, ints)

none_among : (k : ℤ) (ks : List ℤ) → times_among k ks ≡ 0 → AllByRecursion (λ (y : ℤ). int_eq k y ≡ false) ks
none_among k [] e = tt
none_among k (j ∷ ks) e = by (none_among k ks) (int_eq j k) refl e
  where
    by : (times_among k ks ≡ 0 → AllByRecursion (λ (y : ℤ). int_eq k y ≡ false) ks) → (b : Bool) → int_eq j k ≡ b → (if b then 1 else 0) + times_among k ks ≡ 0
        → (int_eq k j ≡ false) × AllByRecursion (λ (y : ℤ). int_eq k y ≡ false) ks
    by rest true is f = absurd (omega (arith, f))
    by rest false is f = (other_way k j is, rest (omega (arith, f)))

distinct_by_times : (ks : List ℤ) → ((n : ℤ) → times_among n ks ≤ 1) → IsDistinct int_eq ks
distinct_by_times [] once = IsDistinct-from_apart int_eq [] (λ i j d before within. absurd (omega arith))
distinct_by_times (k ∷ ks) once =
    IsDistinct-cons int_eq k ks (none_among k ks (omega (arith, once k, once_self k)))
    (distinct_by_times ks (λ n. omega (arith, once n)))

in_span-once : (from size x : ℕ) → in_span from size x ≤ 1
in_span-once from size x = grind (arith, nat_tests)

product_once : (m n : ℕ) → m ≤ 1 → n ≤ 1 → m * n ≤ 1
product_once m n h k = grind arith

in_rect-once : (row col : ℕ) (r : Rect) → in_rect row col r ≤ 1
in_rect-once row col r = product_once (in_span r.row r.height row) (in_span r.col r.width col) (in_span-once r.row r.height row) (in_span-once r.col r.width col)

by_recursion : {X : Type 0} (P : X → Type 0) (xs : List X) → All P xs → AllByRecursion P xs
by_recursion P [] all = tt
by_recursion P (x ∷ xs) all = (All-head P x xs all, by_recursion P xs (All-tail P x xs all))

-- ---- the cursor
placed_there : (n : ℤ) (ps : List Placed) → 0 < times_among n (map (λ (p : Placed). p.window) ps) → (r : Rect) × (rect_among n ps ≡ Some r)
placed_there n [] h = absurd (omega (arith, h))
placed_there n (p ∷ ps) h = by (placed_there n ps) (int_eq p.window n) h
  where
    by : (0 < times_among n (map (λ (q : Placed). q.window) ps) → (r : Rect) × (rect_among n ps ≡ Some r)) → (b : Bool)
        → 0 < (if b then 1 else 0) + times_among n (map (λ (q : Placed). q.window) ps)
        → (r : Rect) × (option_map (λ (q : Placed). q.rect) (cond b (Some p) (find (λ (q : Placed). int_eq q.window n) ps)) ≡ Some r)
    by rest true k = (p.rect, refl)
    by rest false k = rest (omega (arith, k))

found_pane : (s : Seen) (n : ℤ) (placed : List Placed) (panes : List Pane) (r : Rect) → ArePanesIn s placed panes → rect_among n placed ≡ Some r
    → (p : Pane) × (find (λ (q : Pane). int_eq q.window n) panes ≡ Some p) × IsPaneIn s n (without_status r) p
found_pane s n [] panes r are e = cc
found_pane s n (at ∷ more) [] r are e = absurd are
found_pane s n (at ∷ more) (p ∷ ps) r are e = by (found_pane s n more ps r are.1) (int_eq at.window n) refl e
  where
    by : (rect_among n more ≡ Some r → (q : Pane) × (find (λ (q : Pane). int_eq q.window n) ps ≡ Some q) × IsPaneIn s n (without_status r) q) → (b : Bool)
        → int_eq at.window n ≡ b → option_map (λ (q : Placed). q.rect) (cond b (Some at) (find (λ (q : Placed). int_eq q.window n) more)) ≡ Some r
        → (q : Pane) × (find (λ (q : Pane). int_eq q.window n) (p ∷ ps) ≡ Some q) × IsPaneIn s n (without_status r) q
    by rest true is f =
        let same : at.rect ≡ r = cc in
        let test : int_eq p.window n ≡ true = ap (λ (k : ℤ). int_eq k n) (pane_named s at.window (without_status at.rect) p are.0) ∙ is in (
          p,
          ap (λ (t : Bool). cond t (Some p) (find (λ (q : Pane). int_eq q.window n) ps)) test,
          subst (λ (k : ℤ). IsPaneIn s k (without_status r) p) (same_int at.window n is)
              (subst (λ (q : Rect). IsPaneIn s at.window (without_status q) p) same are.0),
        )
    by rest false is f =
        let found = rest f in
        let test : int_eq p.window n ≡ false = ap (λ (k : ℤ). int_eq k n) (pane_named s at.window (without_status at.rect) p are.0) ∙ is in
        (found.0, ap (λ (t : Bool). cond t (Some p) (find (λ (q : Pane). int_eq q.window n) ps)) test ∙ found.1, found.2)

seen_shows : (o : Option Content) (w : Window) (b : SeenBuffer) → ShowsBuffer o w → option_map seen_buffer_now o ≡ Some b → ShowsText b.lines w
seen_shows None w b shows e = absurd shows
seen_shows (Some c) w b shows e = let same : seen_buffer_now c ≡ b = cc in subst (λ (v : SeenBuffer). ShowsText v.lines w) same shows

-- lines have a row each at least
counted : (f : List ℕ → ℕ) (lines : List (List ℕ)) (i k : ℕ) → ((line : List ℕ) → 0 < f line) → i + k ≤ length lines → k ≤ total (take k (drop i (map f lines)))
counted f [] zero zero some h = omega arith
counted f (l ∷ ls) zero zero some h = omega arith
counted f [] zero (suc k) some h = absurd (omega arith)
counted f (l ∷ ls) zero (suc k) some h = let rest = counted f ls zero k some (omega arith) in omega (arith, some l, rest)
counted f [] (suc i) k some h = absurd (omega arith)
counted f (l ∷ ls) (suc i) k some h = counted f ls i k some (omega arith)

line_shown : (groups : List NamedGroup) (b : SeenBuffer) (row : ℕ) (ls : List SceneLine) (n : ℕ) → AreLinesOf groups b row ls → n < length ls
    → bytes_at ls n ≡ line_at b.lines (row + n)
line_shown groups b row [] n are h = absurd (omega arith)
line_shown groups b row (l ∷ ls) zero are h =
    let same : row ≡ row + 0 = omega arith in
    are.0.bytes_are ∙ ap (line_at b.lines) same
line_shown groups b row (l ∷ ls) (suc n) are h =
    let same : suc row + n ≡ row + suc n = omega arith in
    line_shown groups b (suc row) ls n are.1 (omega arith) ∙ ap (line_at b.lines) same

spot_sound : (e : PresentEditor) (n : ℤ) (w : Window) (r : Rect) (p : Pane) → IsSoundEditor e → IsSettled (seen_now e) → window_at e.stage.workspace n ≡ Some w
    → text_area e.stage.workspace n ≡ Some (without_status r) → IsPaneIn (seen_now e) n (without_status r) p → 0 < p.tabstop → IsSoundSpot p (spot_of w)
spot_sound e n w r p sound settled found there is stop =
    let s : Seen = seen_now e in
    let ws : Workspace = e.stage.workspace in
    let area : Rect = without_status r in
    let b : SeenBuffer = is.buffer in
    let both : Some is.window ≡ Some w = sym is.window_is ∙ found in
    let same : is.window ≡ w = cc in
    let pane : IsPaneOf s w b area p = subst (λ (v : Window). IsPaneOf s v b area p) same is.pane in
    let buffer_is : s.buffer w.buffer ≡ Some b = subst (λ (v : Window). s.buffer v.buffer ≡ Some b) same is.buffer_is in
    let shows : ShowsText b.lines w = seen_shows (at_handle e.buffers w.buffer) w b (window_shows e n w sound found) buffer_is in
    let text = area_sound ws n area sound.workspace there in
    let stops : 0 < b.tabstop = omega (arith, stop, pane.tabstop) in
    let on : IsWindowOn s w area b = record {
      area_is = ap (text_area ws) (named_so ws n w found) ∙ there;
      buffer_is = buffer_is;
      wide = text.wide;
      high = text.high;
      stop = stops;
      row = shows.cursor.row;
    } in
    let cursor : ShowsCursor w area b =
    all_found (λ (v : Window). (a : Rect) (c : SeenBuffer) → IsWindowOn s v a c → ShowsCursor v a c) (λ (v : Window). int_eq v.handle n) ws.windows w
    (settled_show_cursors s settled) found area b on in
    let n_above : ℕ = w.cursor.row - w.top in
    let above : n_above ≤ total (slice_range (line_heights area.width b) w.top w.cursor.row) =
    counted (rows_of_line area.width b.tabstop) b.lines w.top n_above (λ line. (rows_are_whole area.width b.tabstop line [] no_looks text.wide stops).1)
    (omega (arith, cursor.first, shows.cursor.row)) in
    let within : n_above < length p.lines.items = omega (arith, above, cursor.room, cursor.first, shows.cursor.row, pane.shown) in
    let row_is : w.top + n_above ≡ w.cursor.row = omega (arith, cursor.first) in
    let bytes : bytes_at p.lines.items (w.cursor.row - p.top) ≡ line_at b.lines w.cursor.row =
    ap (λ (k : ℕ). bytes_at p.lines.items (w.cursor.row - k)) pane.top
    ∙ line_shown s.stage.groups b w.top p.lines.items n_above pane.lines within
    ∙ ap (line_at b.lines) row_is in
    record {
      first = omega (arith, pane.top, cursor.first);
      last = omega (arith, pane.top, cursor.first, within);
      byte = omega (arith, shows.cursor.col, ap (λ (l : List ℕ). length l) bytes);
    }

-- ---- the scene
cursor_sound : (e : PresentEditor) (scene : Scene) → IsSoundEditor e → IsSettled (seen_now e) → IsSceneOf (seen_now e) scene → All (λ (p : Pane). 0 < p.tabstop) scene.panes.items
    → HasCursor scene.panes.items scene.cursor
cursor_sound e scene sound settled is stops =
    let ws : Workspace = e.stage.workspace in
    let n : ℤ = is.page.current in
    let area : Rect = windows_area ws in
    let page = page_sound ws is.page sound.workspace is.page_is in
    let placed : List Placed = rects is.page.tree area in
    let there = placed_there n placed
    (subst (λ (ks : List ℤ). 0 < times_among n ks) (sym (rects_name_windows is.page.tree area)) (held_some n is.page.tree page.current)) in
    let found = found_pane (seen_now e) n placed scene.panes.items there.0 is.panes there.1 in
    let text : text_area ws n ≡ Some (without_status there.0) =
    ap (λ (o : Option Page). option_map without_status (option_and_then (rect_in ws n) o)) (current_home ws is.page sound.workspace is.page_is)
    ∙ ap (λ (o : Option Rect). option_map without_status o) there.1 in
    let stop = all_found (λ (p : Pane). 0 < p.tabstop) (λ (p : Pane). int_eq p.window n) scene.panes.items found.0 stops found.1 in
    let window_is : window_at ws n ≡ Some is.window = ap (window_at ws) (sym (current_is ws is.page sound.workspace is.page_is)) ∙ is.window_is in
    let spot = spot_sound e n is.window there.0 found.0 sound settled window_is text found.2 stop in
    let named : find (λ (p : Pane). int_eq p.window is.window.handle) scene.panes.items ≡ Some found.0 =
    ap (λ (k : ℤ). find (λ (p : Pane). int_eq p.window k) scene.panes.items) (named_so ws n is.window window_is) ∙ found.1 in
    subst (HasCursor scene.panes.items) (sym is.cursor)
    (subst (λ (o : Option Pane). MatchOption o ⊥ (λ p. IsSoundSpot p (spot_of is.window))) (sym named) spot)

pub scene_sound : (e : PresentEditor) (scene : Scene) → IsSoundEditor e → IsSettled (seen_now e) → IsSceneOf (seen_now e) scene → All (λ (p : Pane). 0 < p.tabstop) scene.panes.items
    → IsSoundScene scene
scene_sound e scene sound settled is stops =
    let s : Seen = seen_now e in
    let ws : Workspace = e.stage.workspace in
    let t : Shape = is.page.tree in
    let area : Rect = windows_area ws in
    let page = page_sound ws is.page sound.workspace is.page_is in
    let placed : List Placed = rects t area in
    let large = rects_have_least_size t area page.filled page.roomy in
    let columns = bars t area page.filled page.roomy in
    let wide : 0 < ws.width = omega (arith, some_least Across t page.filled, page.roomy.wide) in
    let high : 1 < ws.height = omega (arith, some_least Down t page.filled, page.roomy.high) in
    let parts : map pane_area scene.panes.items ≡ areas placed = areas_are s placed scene.panes.items is.panes large in
    let all_areas : scene_areas scene ≡ areas placed ++ separators t area = λ i. parts i ++ is.separators i in
    let holds_area : LiesIn (whole_screen scene) area = record {
      top = omega arith;
      bottom = omega (arith, is.height);
      left = omega arith;
      right = omega (arith, is.width);
    } in
    record {
      wide = omega (arith, is.width, wide);
      high = omega (arith, is.height, high);
      panes = panes_sound s placed scene.panes.items is.panes large stops;
      separators =
          subst (AllByRecursion (λ (r : Rect). (r.width ≡ 1) × (0 < r.height))) (sym is.separators)
          (weaker_all (IsBar area) (λ (r : Rect). (r.width ≡ 1) × (0 < r.height)) (separators t area) (λ r b. (b.narrow, b.high)) columns);
      inside =
          subst (AllByRecursion (LiesIn (whole_screen scene))) (sym all_areas)
          (both_all (LiesIn (whole_screen scene)) (areas placed) (separators t area)
          (weaker_all (LiesIn area) (LiesIn (whole_screen scene)) (areas placed) (λ r h. lies_wider (whole_screen scene) area r holds_area h)
          (by_recursion (LiesIn area) (areas placed) (rects_lie_in_area t area page.filled page.roomy)))
          (weaker_all (IsBar area) (LiesIn (whole_screen scene)) (separators t area) (λ r b. lies_wider (whole_screen scene) area r holds_area b.inside) columns));
      apart = λ row col.
          subst (λ (rs : List Rect). times_in row col rs ≤ 1) (sym all_areas)
          (omega (arith, times_in-append row col (areas placed) (separators t area), rects_tile t area page.filled page.roomy row col, in_rect-once row col area));
      windows =
          subst (IsDistinct int_eq) (sym (windows_are s placed scene.panes.items is.panes ∙ rects_name_windows t area))
          (distinct_by_times (windows (leaves_of t)) (page_once ws is.page sound.workspace is.page_is));
      cursor = cursor_sound e scene sound settled is stops;
      patches = subst (AllByRecursion _) (sym is.patches) tt;
    }
