-- Rows that show the same in two scenes.
use Rattle.std.proofs.Common.{◌≡◌, ◌≢◌, ◌<◌, ◌≤◌, ◌+◌, ◌-◌, ◌*◌, ◌/◌, ℕ, zero, suc, Bool, true, false, cond, ◌==◌, ◌&&◌, nat_le, min, List, [], ◌∷◌, ◌++◌, length, map, get_or, take, drop, refl, sym, ap, subst, ◌∙◌, arith, ⊎_elim}
use Rattle.std.specs.List.{AllByRecursion}
use Rattle.std.proofs.lemmas.Bool.{and_parts, cases_eq, cases_lt, eq-eqb, ne_eqb, true≢false}
use Rattle.std.proofs.Math.Nat.{suc-mul}
use Rattle.std.proofs.lemmas.Bool.Decides.{nat_tests}
use Rattle.std.proofs.lemmas.List.{drop-drop, get_or_append_left, get_or-append_right}
use Rattle.nv_hl.specs.declared.cell.Cell.{Cell}
use Rattle.nv_hl.specs.Attributes.{empty_attr, same_attr}
use Rattle.nv_hl.proofs.LawLemmas.{same_attrs_are_equal}
use Rattle.nv_hl.specs.Cells.{space}
use Rattle.nv_layout.specs.declared.nodes.Rect.{Rect}
use Rattle.nv_layout.specs.Tiling.{LiesIn, in_rect, times_in}
use Rattle.nv_linedraw.specs.declared.looks.Looks.{Looks}
use Rattle.nv_linedraw.specs.declared.looks.Span.{Span}
use Rattle.nv_linedraw.specs.LineCells.{cells_of_line, rows_of_line}
use Rattle.nv_screen.specs.declared.scene.Bars.{Bars}
use Rattle.nv_screen.specs.declared.scene.Pane.{Pane}
use Rattle.nv_screen.specs.declared.scene.Patch.{Patch}
use Rattle.nv_screen.specs.declared.scene.Scene.{Scene}
use Rattle.nv_screen.specs.declared.scene.SceneLine.{SceneLine}
use Rattle.nv_screen.specs.Drawing.{cell_shown, drawn_rows, last_with_at, line_rows, pane_rows, rows_of_cells, rows_without_patches, scene_cells, status_row, text_rows, with_patches}
use Rattle.nv_screen.specs.Laws.{cell_of_pane, cell_of_panes, cell_of_separators}
use Rattle.nv_screen.specs.Sound.{IsSoundPane, IsSoundScene, pane_area, whole_screen}
use Rattle.nv_screen.specs.Steady.{screen_row}
use Rattle.nv_screen.specs.inside.Steadiness.{AllAgreeAt, AreLowered, AreSameLines, HaveSameFrame, IsWideText, ShowsSame}
use Rattle.nv_screen.proofs.ShapeLemmas.{pane-shaped}
use Rattle.nv_screen.proofs.TextLemmas.{length-rows_of_cells, rows_counted}
use Rattle.nv_screen.proofs.WholeScreens.{screens_are_whole}
use Rattle.nv_screen.proofs.WindowLemmas.{Outside, Within, cells_stand_by_windows, decide, rect_in, rect_out}

-- ---- lists

pub true_false : (b : Bool) → b ≡ true → b ≡ false → ⊥
true_false b t f = true≢false (sym t ∙ f)

pub past_flags : (flags : List Bool) (r : ℕ) → length flags ≤ r → get_or flags r false ≡ false
past_flags [] r le = refl
past_flags (x ∷ xs) zero le = absurd (omega (arith, le))
past_flags (x ∷ xs) (suc r) le = past_flags xs r (omega (arith, le))

-- lists of a length that have the same at each index
same_cells : (xs ys : List Cell) (d : Cell) → length xs ≡ length ys → ((c : ℕ) → c < length xs → get_or xs c d ≡ get_or ys c d) → xs ≡ ys
same_cells [] [] d e all = refl
same_cells [] (y ∷ ys) d e all = absurd (omega (arith, e))
same_cells (x ∷ xs) [] d e all = absurd (omega (arith, e))
same_cells (x ∷ xs) (y ∷ ys) d e all =
    let first : x ≡ y = all 0 (omega arith) in
    let rest : xs ≡ ys = same_cells xs ys d (omega (arith, e)) (λ c lt. all (suc c) (omega (arith, lt))) in
    λ i. first i ∷ rest i

row_width : (w : ℕ) (rows : List (List Cell)) (k : ℕ) → k < length rows → AllByRecursion (λ (r : List Cell). length r ≡ w) rows
    → length (get_or rows k []) ≡ w
row_width w [] k lt all = absurd (omega (arith, lt))
row_width w (x ∷ xs) zero lt all = all.0
row_width w (x ∷ xs) (suc k) lt all = row_width w xs k (omega (arith, lt)) all.1

pub empty_list : (xs : List Patch) → length xs ≡ 0 → xs ≡ []
empty_list [] e = refl
empty_list (x ∷ xs) e = absurd (omega (arith, e))

pub lowered_more : (a b c : List Bool) → AreLowered a b → AreLowered b c → AreLowered a c
lowered_more a b c f s = record { count = s.count ∙ f.count; lowered = λ r e. f.lowered r (s.lowered r e) }

-- ---- what tests tell

pub looks_same : (a b : Looks) → (same_attr a.nontext b.nontext && same_attr a.special b.special && same_attr a.beyond b.beyond) ≡ true → a ≡ b
looks_same a b h =
    let beyond = and_parts (same_attr a.nontext b.nontext && same_attr a.special b.special) (same_attr a.beyond b.beyond) h in
    let special = and_parts (same_attr a.nontext b.nontext) (same_attr a.special b.special) beyond.0 in
    λ i. record {
      nontext = (same_attrs_are_equal a.nontext b.nontext).0 special.0 i;
      special = (same_attrs_are_equal a.special b.special).0 special.1 i;
      beyond = (same_attrs_are_equal a.beyond b.beyond).0 beyond.1 i;
    }

pub bars_same : (a b : Bars) → (same_attr a.current b.current && same_attr a.other b.other && same_attr a.separator b.separator) ≡ true → a ≡ b
bars_same a b h =
    let separator = and_parts (same_attr a.current b.current && same_attr a.other b.other) (same_attr a.separator b.separator) h in
    let other = and_parts (same_attr a.current b.current) (same_attr a.other b.other) separator.0 in
    λ i. record {
      current = (same_attrs_are_equal a.current b.current).0 other.0 i;
      other = (same_attrs_are_equal a.other b.other).0 other.1 i;
      separator = (same_attrs_are_equal a.separator b.separator).0 separator.1 i;
    }

-- ---- the rows of a line

-- of the rows of a line that there is room for nothing below depends
line_front : (w room k : ℕ) (looks : Looks) (cs : List Cell) (more others : ℕ → List (List Cell)) → k < min room (length cs / w)
    → get_or (line_rows w looks room cs more) k [] ≡ get_or (line_rows w looks room cs others) k []
line_front w room k looks cs more others lt = either (nat_le (length cs / w) room) where
  n : ℕ
  n = length cs / w

  either : (b : Bool)
      → get_or (cond b (rows_of_cells n w cs ++ more (room - n)) (last_with_at w looks (rows_of_cells room w cs))) k []
      ≡ get_or (cond b (rows_of_cells n w cs ++ others (room - n)) (last_with_at w looks (rows_of_cells room w cs))) k []
  either true =
      let within : k < length (rows_of_cells n w cs) = omega (arith, lt, length-rows_of_cells n w cs) in
      get_or_append_left (rows_of_cells n w cs) (more (room - n)) [] k within
      ∙ sym (get_or_append_left (rows_of_cells n w cs) (others (room - n)) [] k within)
  either false = refl

-- below the rows of a line that all fit stands what follows
pub line_behind : (w room k n left j : ℕ) (looks : Looks) (cs : List Cell) (more : ℕ → List (List Cell)) → length cs / w ≡ n
    → n ≤ room → n ≤ k → left ≡ room - n → j ≡ k - n
    → get_or (line_rows w looks room cs more) k [] ≡ get_or (more left) j []
line_behind w room k n left j looks cs more count fits le left_is j_is =
    let c = length cs / w in
    let xs = rows_of_cells c w cs in
    let yes : nat_le c room ≡ true = grind (arith, nat_tests) in
    let l : room - c ≡ left = omega (arith, count, left_is) in
    let a : k - c ≡ j = omega (arith, count, j_is) in
    ap (λ b. get_or (cond b (xs ++ more (room - c)) (last_with_at w looks (rows_of_cells room w cs))) k []) yes
    ∙ get_or-append_right xs (more (room - c)) c k [] (length-rows_of_cells c w cs) (omega (arith, count, le))
    ∙ (λ i. get_or (more (l i)) (a i) [])

module _ (w t : ℕ) (wide : 0 < w) (stop : 0 < t) where
  -- a row shows the same from lines on where it does in them and below them
  pub line_step : (at room rows left next : ℕ) (a b : SceneLine) (ls ms : List SceneLine) (r : ℕ)
      → rows ≡ min room (rows_of_line w t a.bytes) → rows ≡ min room (rows_of_line w t b.bytes)
      → left ≡ room - rows → next ≡ at + rows
      → (at ≤ r → r < at + rows → AreSameLines a b)
      → ShowsSame w t next left ls ms r → ShowsSame w t at room (a ∷ ls) (b ∷ ms) r
  line_step at room rows left next a b ls ms r of_a of_b left_is next_is same rest looks le lt =
      let ca = scene_cells w t looks a in
      let cb = scene_cells w t looks b in
      let na = rows_counted w t looks a wide stop in
      let nb = rows_counted w t looks b wide stop in
      let below = λ (lines : List SceneLine) (n : ℕ). text_rows w t looks n lines in
      ⊎_elim
      (λ (front : r < at + rows).
      let s = same le front in
      let cells : ca ≡ cb = λ i. scene_cells_of looks (s.bytes i) (s.spans i) in
      line_front w room (r - at) looks ca (below ls) (below ms) (omega (arith, front, le, of_a, na))
      ∙ ap (λ cs. get_or (line_rows w looks room cs (below ms)) (r - at) []) cells)
      (λ (behind : at + rows ≤ r).
      let a_is : length ca / w ≡ rows = omega (arith, na, of_a, behind, lt) in
      let b_is : length cb / w ≡ rows = omega (arith, nb, of_b, behind, lt) in
      let j : r - next ≡ r - at - rows = omega (arith, next_is) in
      let fits : rows ≤ room = omega (arith, of_a) in
      let within : r < next + left = omega (arith, next_is, left_is, fits, lt) in
      line_behind w room (r - at) rows left (r - next) looks ca (below ls) a_is fits (omega (arith, behind)) left_is j
      ∙ rest looks (omega (arith, next_is, behind)) within
      ∙ sym (line_behind w room (r - at) rows left (r - next) looks cb (below ms) b_is fits (omega (arith, behind)) left_is j))
      (cases_lt r (at + rows)) where
        scene_cells_of : Looks → List ℕ → List Span → List Cell
        scene_cells_of looks bytes spans = cells_of_line w t bytes spans looks

-- ---- a cell of windows

-- what a window shows at a cell, by its place, its status line and its rows
abbrev pub cell_by : ℕ → ℕ → Rect → List Cell → List (List Cell) → Cell
cell_by r c a bar rows =
    cond (r == a.row + a.height) (get_or bar (c - a.col) (space empty_attr)) (cell_shown rows (r - a.row) (c - a.col))

abbrev pub area_of : Rect → Rect
area_of a = record a { height = a.height + 1 }

module _ (r c : ℕ) where
  text_cell : (a : Rect) (bar : List Cell) (rows : List (List Cell)) → r < a.row + a.height
      → cell_by r c a bar rows ≡ cell_shown rows (r - a.row) (c - a.col)
  text_cell a bar rows lt =
      let ne : r ≢ a.row + a.height = λ e. absurd (omega (arith, lt, e)) in
      ap (λ b. cond b (get_or bar (c - a.col) (space empty_attr)) (cell_shown rows (r - a.row) (c - a.col))) (ne_eqb r (a.row + a.height) ne)

  bar_cell : (a : Rect) (bar : List Cell) (rows : List (List Cell)) → r ≡ a.row + a.height
      → cell_by r c a bar rows ≡ get_or bar (c - a.col) (space empty_attr)
  bar_cell a bar rows e =
      ap (λ b. cond b (get_or bar (c - a.col) (space empty_attr)) (cell_shown rows (r - a.row) (c - a.col))) (eq-eqb r (a.row + a.height) e)

  same_cell : (a : Rect) (x y : List Cell) (xs ys : List (List Cell)) → Within a.row (a.height + 1) a.col a.width r c
      → (r ≡ a.row + a.height → x ≡ y)
      → (a.row ≤ r → r < a.row + a.height → get_or xs (r - a.row) [] ≡ get_or ys (r - a.row) [])
      → cell_by r c a x xs ≡ cell_by r c a y ys
  same_cell a x y xs ys i bars texts =
      ⊎_elim
      (λ (e : r ≡ a.row + a.height).
      bar_cell a x xs e ∙ ap (λ bar. get_or bar (c - a.col) (space empty_attr)) (bars e) ∙ sym (bar_cell a y ys e))
      (λ (ne : r ≢ a.row + a.height).
      let above : r < a.row + a.height = grind (arith, i.bottom) in
      text_cell a x xs above ∙ ap (λ row. get_or row (c - a.col) (space empty_attr)) (texts i.top above) ∙ sym (text_cell a y ys above))
      (cases_eq r (a.row + a.height))

  -- a cell shows the same of windows that agree in its row
  agree_cells : (looks : Looks) (bars : Bars) (ps qs : List Pane) (other : Cell) → AllAgreeAt ps qs r
      → cell_of_panes looks bars ps r c other ≡ cell_of_panes looks bars qs r c other
  agree_cells looks bars [] [] other all = refl
  agree_cells looks bars [] (q ∷ qs) other all = absurd all
  agree_cells looks bars (p ∷ ps) [] other all = absurd all
  agree_cells looks bars (p ∷ ps) (q ∷ qs) other all =
      let a = p.rect in
      let g = all.0 in
      let rest = agree_cells looks bars ps qs other all.1 in
      let moved : in_rect r c (pane_area p) ≡ in_rect r c (pane_area q) = ap (λ (z : Rect). in_rect r c (area_of z)) g.rect in
      let x = cell_of_pane looks bars p r c in let y = cell_of_pane looks bars q r c in
      let u = cell_of_panes looks bars ps r c other in let v = cell_of_panes looks bars qs r c other in
      ⊎_elim
      (λ (i : Within a.row (a.height + 1) a.col a.width r c).
      let one : in_rect r c (pane_area p) ≡ 1 = rect_in (pane_area p) r c i in
      let here : x ≡ y =
      same_cell a (status_row bars p) (status_row bars q) (pane_rows looks p) (pane_rows looks q) i (g.status bars) (g.text looks)
      ∙ ap (λ (z : Rect). cell_by r c z (status_row bars q) (pane_rows looks q)) g.rect in
      ap (λ b. cond b x u) (eq-eqb (in_rect r c (pane_area p)) 1 one) ∙ here
      ∙ sym (ap (λ b. cond b y v) (eq-eqb (in_rect r c (pane_area q)) 1 (sym moved ∙ one))))
      (λ (out : Outside a.row (a.height + 1) a.col a.width r c).
      let none : in_rect r c (pane_area p) ≡ 0 = rect_out (pane_area p) r c out in
      ap (λ n. cond (n == 1) x u) none ∙ rest ∙ sym (ap (λ n. cond (n == 1) y v) (sym moved ∙ none)))
      (decide a.row (a.height + 1) a.col a.width r c)

  -- ---- the one window that has a cell

  some_time : (ps : List Pane) (i : ℕ) (d : Pane) → i < length ps → in_rect r c (pane_area (get_or ps i d)) ≡ 1
      → 1 ≤ times_in r c (map pane_area ps)
  some_time [] i d lt one = absurd (omega (arith, lt))
  some_time (p ∷ ps) zero d lt one = omega (arith, one)
  some_time (p ∷ ps) (suc i) d lt one = omega (arith, some_time ps i d (omega (arith, lt)) one)

  its_cell : (looks : Looks) (bars : Bars) (ps : List Pane) (i : ℕ) (d : Pane) (other : Cell) → i < length ps
      → in_rect r c (pane_area (get_or ps i d)) ≡ 1 → times_in r c (map pane_area ps) ≤ 1
      → cell_of_panes looks bars ps r c other ≡ cell_of_pane looks bars (get_or ps i d) r c
  its_cell looks bars [] i d other lt one few = absurd (omega (arith, lt))
  its_cell looks bars (p ∷ ps) zero d other lt one few =
      ap (λ b. cond b (cell_of_pane looks bars p r c) (cell_of_panes looks bars ps r c other)) (eq-eqb (in_rect r c (pane_area p)) 1 one)
  its_cell looks bars (p ∷ ps) (suc i) d other lt one few =
      let some = some_time ps i d (omega (arith, lt)) one in
      let none : in_rect r c (pane_area p) ≡ 0 = omega (arith, few, some) in
      ap (λ n. cond (n == 1) (cell_of_pane looks bars p r c) (cell_of_panes looks bars ps r c other)) none
      ∙ its_cell looks bars ps i d other (omega (arith, lt)) one (omega (arith, few))

  times-front : (xs ys : List Rect) → times_in r c xs ≤ times_in r c (xs ++ ys)
  times-front [] ys = omega arith
  times-front (x ∷ xs) ys = omega (arith, times-front xs ys)

-- ---- rows of the screen

plain_rows : (s : Scene) → s.patches.items ≡ [] → drawn_rows s ≡ rows_without_patches s
unfolding drawn_rows
plain_rows s e = ap (with_patches (rows_without_patches s)) e

screen_row-wide : (s : Scene) (r : ℕ) → r < s.height → length (screen_row s r) ≡ s.width
screen_row-wide s r lt =
    let whole = screens_are_whole s in row_width s.width (drawn_rows s) r (omega (arith, lt, whole.high)) whole.wide

-- a cell of a row of the screen
screen_cell : (s : Scene) → IsSoundScene s → s.patches.items ≡ [] → (r c : ℕ) → r < s.height → c < s.width
    → get_or (screen_row s r) c (space empty_attr)
    ≡ cell_of_panes s.looks s.bars s.panes.items r c (cell_of_separators s.bars s.separators.items r c)
screen_cell s sound plain r c high wide =
    ap (λ rows. cell_shown rows r c) (plain_rows s plain) ∙ cells_stand_by_windows s sound r c high wide

-- a row in which all windows agree shows the same in both scenes
pub rows_agree : (a b : Scene) → IsSoundScene a → IsSoundScene b → HaveSameFrame a b → (r : ℕ) → r < b.height
    → AllAgreeAt a.panes.items b.panes.items r → screen_row a r ≡ screen_row b r
rows_agree a b of_a of_b f r lt all =
    let low : r < a.height = omega (arith, lt, f.height) in
    let wa = screen_row-wide a r low in
    let wb = screen_row-wide b r lt in
    let ps = a.panes.items in let qs = b.panes.items in
    same_cells (screen_row a r) (screen_row b r) (space empty_attr) (wa ∙ f.width ∙ sym wb)
    (λ c in_row.
    let ca : c < a.width = omega (arith, in_row, wa) in
    let cb : c < b.width = omega (arith, ca, f.width) in
    screen_cell a of_a f.plain_before r c low ca
    ∙ (λ i. cell_of_panes (f.looks i) (f.bars i) ps r c (cell_of_separators (f.bars i) (f.separators i) r c))
    ∙ agree_cells r c b.looks b.bars ps qs (cell_of_separators b.bars b.separators.items r c) all
    ∙ sym (screen_cell b of_b f.plain_now r c lt cb))

-- ---- the row of a wide window

lies : (a : Rect) (ps : List Pane) (rs : List Rect) (i : ℕ) (d : Pane) → i < length ps
    → AllByRecursion (LiesIn a) (map pane_area ps ++ rs) → LiesIn a (pane_area (get_or ps i d))
lies a [] rs i d lt all = absurd (omega (arith, lt))
lies a (p ∷ ps) rs zero d lt all = all.0
lies a (p ∷ ps) rs (suc i) d lt all = lies a ps rs i d (omega (arith, lt)) all.1

sound_pane : (ps : List Pane) (i : ℕ) (d : Pane) → i < length ps → AllByRecursion IsSoundPane ps → IsSoundPane (get_or ps i d)
sound_pane [] i d lt all = absurd (omega (arith, lt))
sound_pane (p ∷ ps) zero d lt all = all.0
sound_pane (p ∷ ps) (suc i) d lt all = sound_pane ps i d (omega (arith, lt)) all.1

text_at : (s : Scene) → IsSoundScene s → s.patches.items ≡ [] → (i : ℕ) (d : Pane) → i < length s.panes.items
    → (r : ℕ) → IsWideText s.width (get_or s.panes.items i d) r
    → get_or (pane_rows s.looks (get_or s.panes.items i d)) (r - (get_or s.panes.items i d).rect.row) [] ≡ screen_row s r
text_at s sound plain i d lt r t =
    let ps = s.panes.items in
    let p = get_or ps i d in
    let a = p.rect in
    let inside = lies (whole_screen s) ps s.separators.items i d lt sound.inside in
    let ok = sound_pane ps i d lt sound.panes in
    let shape = pane-shaped s.looks p (ok.wide, ok.stop) in
    let low : r < s.height = omega (arith, inside.bottom, t.bottom) in
    let there : r - a.row < length (pane_rows s.looks p) = omega (arith, shape.high, t.top, t.bottom) in
    let row = get_or (pane_rows s.looks p) (r - a.row) [] in
    let w : length row ≡ a.width = row_width a.width (pane_rows s.looks p) (r - a.row) there shape.wide in
    let ws = screen_row-wide s r low in
    same_cells row (screen_row s r) (space empty_attr) (w ∙ t.width ∙ sym ws)
    (λ c in_row.
    let within : c < s.width = omega (arith, in_row, w, t.width) in
    let one : in_rect r c (pane_area p) ≡ 1 =
    rect_in (pane_area p) r c (record {
      top = t.top;
      bottom = omega (arith, t.bottom);
      left = omega (arith, t.col);
      right = omega (arith, t.col, t.width, within);
    }) in
    let few : times_in r c (map pane_area ps) ≤ 1 =
    omega (arith, sound.apart r c, times-front r c (map pane_area ps) s.separators.items) in
    let column : c - a.col ≡ c = omega (arith, t.col) in
    sym (screen_cell s sound plain r c low within
    ∙ its_cell r c s.looks s.bars ps i d (cell_of_separators s.bars s.separators.items r c) lt one few
    ∙ text_cell r c a (status_row s.bars p) (pane_rows s.looks p) t.bottom
    ∙ ap (λ k. get_or row k (space empty_attr)) column))

pub wide_text : (s : Scene) → IsSoundScene s → s.patches.items ≡ [] → (i : ℕ) (p d : Pane) → i < length s.panes.items
    → p ≡ get_or s.panes.items i d → (r : ℕ) → IsWideText s.width p r
    → get_or (pane_rows s.looks p) (r - p.rect.row) [] ≡ screen_row s r
wide_text s sound plain i p d lt e r =
    subst (λ (q : Pane). IsWideText s.width q r → get_or (pane_rows s.looks q) (r - q.rect.row) [] ≡ screen_row s r) (sym e)
    (text_at s sound plain i d lt r)

-- a row of the cells of a line
pub row_of_cells : (n w : ℕ) (cs : List Cell) (k : ℕ) → k < n → get_or (rows_of_cells n w cs) k [] ≡ take w (drop (k * w) cs)
row_of_cells zero w cs k lt = absurd (omega (arith, lt))
row_of_cells (suc n) w cs zero lt =
    let none : 0 ≡ 0 * w = omega arith in ap (λ m. take w (drop m cs)) none
row_of_cells (suc n) w cs (suc k) lt =
    row_of_cells n w (drop w cs) k (omega (arith, lt))
    ∙ ap (take w) (drop-drop (k * w) w cs ∙ ap (λ m. drop m cs) (omega (arith, suc-mul k w)))

pub row_of_line : (w room k : ℕ) (looks : Looks) (cs : List Cell) (more : ℕ → List (List Cell)) → length cs / w ≤ room → k < length cs / w
    → take w (drop (k * w) cs) ≡ get_or (line_rows w looks room cs more) k []
row_of_line w room k looks cs more fits lt =
    let n = length cs / w in
    let xs = rows_of_cells n w cs in
    let yes : nat_le n room ≡ true = grind (arith, nat_tests) in
    sym (ap (λ b. get_or (cond b (xs ++ more (room - n)) (last_with_at w looks (rows_of_cells room w cs))) k []) yes
    ∙ get_or_append_left xs (more (room - n)) [] k (omega (arith, lt, length-rows_of_cells n w cs))
    ∙ row_of_cells n w cs k lt)
