-- Rows of lines that are lent.
use Rattle.std.specs.Prelude.{All, IfSome}
use Rattle.nv_painter.specs.Keys.{LineKey, cells_of_key, same_line_key}
use Rattle.nv_painter.specs.declared.key.LentKey.{LentKey}
use Rattle.nv_painter.specs.declared.lent.LentRow.{LentRow}
use Rattle.nv_painter.specs.inside.Lent.{AreLent, DifferBetween, IsFound, IsLikeBut, IsLone, IsOfLine, cells_placed, lent_cells, lent_content, lent_rows, placed_cells, placed_rows, plain_cells, row_of_key}
use Rattle.nv_painter.specs.inside.SameKeys.{key_decides}
use Rattle.std.proofs.Common.{Some, true, false, cond, subst, ◌≡◌, ◌==◌, ◌<◌, ◌≤◌, ◌+◌, ◌-◌, ◌*◌, ◌/◌, ◌%◌, ◌∙◌, ◌++◌, ℕ, List, [], ◌∷◌, get_or, length, map, replicate, take, drop, ap, ap₂, sym, arith}
use Rattle.std.proofs.Math.Nat.{div-mul-le_self, div_self, mod-eq_of_lt, mul-le-mul_right}
use Rattle.std.proofs.lemmas.Bool.Decides.{nat_tests}
use Rattle.std.proofs.lemmas.List.{drop-drop, drop-map, drop-replicate, get_or-map, length-drop, length-map, length-take, take-append-drop, take-append-le, take-map}
use Rattle.std.proofs.lemmas.List.Elements.{All-get_or}
use Rattle.nv_lines.proofs.Ranges.{drop-append}
use Rattle.nv_hl.specs.declared.cell.Cell.{Cell}
use Rattle.nv_hl.specs.Attributes.{empty_attr}
use Rattle.nv_hl.specs.Cells.{space}
use Rattle.nv_linedraw.specs.LineCells.{filling}
use Rattle.nv_linedraw.specs.inside.Plain.{byte_cell, plain_filling}
use Rattle.nv_linedraw.proofs.PlainLines.{cells_of_plain}
use Rattle.nv_linedraw.specs.declared.looks.Looks.{Looks}
use Rattle.nv_screen.specs.declared.scene.Pane.{Pane}
use Rattle.nv_screen.specs.declared.scene.Scene.{Scene}
use Rattle.nv_screen.specs.declared.scene.SceneLine.{SceneLine}
use Rattle.nv_screen.specs.Drawing.{drawn_rows, pane_rows, scene_cells, text_rows}
use Rattle.nv_screen.specs.Sound.{IsSoundScene}
use Rattle.nv_screen.proofs.SteadyLemmas.{line_behind, row_of_line, wide_text}
use Rattle.nv_painter.proofs.MovedLemmas.{there_is}
use Rattle.nv_painter.proofs.PlainLemmas.{cells_length}

module _ (w t : ℕ) (looks : Looks) (height room n : ℕ) (line : SceneLine) (lines rest : List SceneLine) (cells : List Cell)
    (pane : List (List Cell)) (split : rest ≡ line ∷ lines) (cells_are : cells ≡ scene_cells w t looks line) (count : n ≡ length cells / w)
    (fits : n ≤ room) (within : room ≤ height)
    (so_far : (k : ℕ) → k < room → get_or (text_rows w t looks room rest) k [] ≡ get_or pane (height - room + k) []) where
  here : (k : ℕ) → k < room → get_or (text_rows w t looks room (line ∷ lines)) k [] ≡ get_or pane (height - room + k) []
  here k lt = ap (λ ls. get_or (text_rows w t looks room ls) k []) (sym split) ∙ so_far k lt

  counted : length (scene_cells w t looks line) / w ≡ n
  counted = ap (λ cs. length cs / w) (sym cells_are) ∙ sym count

  -- its rows
  pub line_rows_are : (k : ℕ) → k < n → take w (drop (k * w) cells) ≡ get_or pane (height - room + k) []
  line_rows_are k lt =
      ap (λ cs. take w (drop (k * w) cs)) cells_are
      ∙ row_of_line w room k looks (scene_cells w t looks line) (λ left. text_rows w t looks left lines) (omega (arith, counted, fits)) (omega (arith, counted, lt))
      ∙ here k (omega (arith, lt, fits))

  -- the rows below it
  pub rows_below_are : (k : ℕ) → k < room - n → get_or (text_rows w t looks (room - n) lines) k [] ≡ get_or pane (height - (room - n) + k) []
  rows_below_are k lt =
      sym (line_behind w room (n + k) n (room - n) k looks (scene_cells w t looks line) (λ left. text_rows w t looks left lines) counted fits
      (omega arith) (omega arith) (omega arith))
      ∙ here (n + k) (omega (arith, lt, fits))
      ∙ ap (λ j. get_or pane j []) (omega (arith, lt, fits, within))

-- the rows of a window as wide as the screen
pub wide_rows_are : (s : Scene) → IsSoundScene s → s.patches.items ≡ [] → (i : ℕ) (p d : Pane) → i < length s.panes.items
    → p ≡ get_or s.panes.items i d → p.rect.col ≡ 0 → p.rect.width ≡ s.width
    → (k : ℕ) → k < p.rect.height → get_or (pane_rows s.looks p) k [] ≡ get_or (drawn_rows s) (p.rect.row + k) []
wide_rows_are s sound plain i p d lt is col width k below =
    let back : p.rect.row + k - p.rect.row ≡ k = omega arith in
    ap (λ j. get_or (pane_rows s.looks p) j []) (sym back)
    ∙ wide_text s sound plain i p d lt is (p.rect.row + k)
    (record { col = col; width = width; top = omega arith; bottom = omega (arith, below) })

-- ---- rows of the same line

placed_is : (r : LentRow) (k : LentKey) → r.line ≡ Some k → placed_cells r ≡ row_of_key (lent_content k) r.number
placed_is r k is = ap (λ o. cells_placed o r.number) is

pub same_rows : (a b : LentRow) (old new : LentKey) → a.line ≡ Some old → b.line ≡ Some new → a.number ≡ b.number
    → same_line_key (lent_content old) (lent_content new) ≡ true → placed_cells a ≡ placed_cells b
same_rows a b old new is_a is_b numbers same =
    let keys : lent_content old ≡ lent_content new = (key_decides (lent_content old) (lent_content new)).0 same in
    placed_is a old is_a ∙ ap₂ row_of_key keys numbers ∙ sym (placed_is b new is_b)

pub has_cells : (r : LentRow) (k : LentKey) → IsOfLine r → r.line ≡ Some k → 0 < length (placed_cells r)
has_cells r k of is = subst (λ o. IfSome o (λ k. 0 < length (placed_cells r))) is of.some

row_fits : (w count n : ℕ) (cells : List Cell) → 0 < w → count ≡ length cells / w → n < count → 0 < length (take w (drop (n * w) cells))
row_fits w count n cells wide is lt =
    let most : count * w ≤ length cells = subst (λ m. m * w ≤ length cells) (sym is) (div-mul-le_self (length cells) w) in
    let less : (n + 1) * w ≤ count * w = mul-le-mul_right w (omega (arith, lt)) in
    let next : (n + 1) * w ≡ n * w + w = omega arith in
    omega (arith, wide, most, less, next, length-take w (drop (n * w) cells), length-drop (n * w) cells)

no_row : (w n : ℕ) (cells : List Cell) → 0 < length (take w (drop (n * w) cells)) → 0 < length cells
no_row w n cells some = omega (arith, some, length-take w (drop (n * w) cells), length-drop (n * w) cells)

-- a row of a line that was found
pub of_found : (r : LentRow) (k : LentKey) (n : ℕ) (cells : List Cell) (count : ℕ) → 0 < k.width → n < count → IsFound (lent_content k) cells count
    → r.line ≡ Some k → r.number ≡ n → (0 < length (lent_cells r) → lent_cells r ≡ take k.width (drop (n * k.width) cells)) → IsOfLine r
of_found r k n cells count wide lt found is number are =
    let placed : placed_cells r ≡ row_of_key (lent_content k) n = placed_is r k is ∙ ap (row_of_key (lent_content k)) number in
    let some : 0 < length (placed_cells r) =
    omega (arith, ap length placed, row_fits k.width count n (cells_of_key (lent_content k)) wide found.rows lt) in record {
      some = subst (λ o. IfSome o (λ k. 0 < length (placed_cells r))) (sym is) some;
      cells = λ there. are there
          ∙ ap (λ cs. take k.width (drop (n * k.width) cs)) (found.same (no_row k.width n cells (omega (arith, there, ap length (are there)))))
          ∙ sym placed;
    }

-- the cells of rows that were looked up
lent_at_place : (rows : List LentRow) (k : ℕ) → All IsOfLine rows → 0 < length (get_or (lent_rows rows) k [])
    → get_or (lent_rows rows) k [] ≡ get_or (placed_rows rows) k []
lent_at_place [] k all some = absurd (omega (arith, some))
lent_at_place (r ∷ rs) k all some =
    let rows = r ∷ rs in
    let lt : k < length rows = omega (arith, there_is (lent_rows rows) k some, length-map rows lent_cells) in
    let lent : get_or (lent_rows rows) k [] ≡ lent_cells (get_or rows k r) = get_or-map lent_cells rows k r [] lt in
    lent ∙ (All-get_or IsOfLine rows k r lt all).cells (omega (arith, some, ap length lent)) ∙ sym (get_or-map placed_cells rows k r [] lt)

pub lent_of_placed : (rows : List LentRow) (screen : List (List Cell)) → All IsOfLine rows → AreLent (placed_rows rows) screen
    → AreLent (lent_rows rows) screen
lent_of_placed rows screen all placed k some =
    let is = lent_at_place rows k all some in
    is ∙ placed k (omega (arith, some, ap length is))

-- ---- rows of lines that differ between two places alone

lone_count : (w : ℕ) (line : List ℕ) → length line < w → length (plain_cells w line) ≡ w
lone_count w line lt = omega (arith, lt, cells_length w line)

blanks_of : (w n : ℕ) → 0 < n → n < w → plain_filling w n ≡ w - n
blanks_of w n some lt =
    let more : (n == 0) ≡ false = grind (arith, nat_tests) in
    ap (λ b. filling w b (n % w)) more
    ∙ ap (λ m. cond (m == 0) 0 (w - m)) (mod-eq_of_lt lt)
    ∙ ap (λ b. cond b 0 (w - n)) more

lone_line : (k : LineKey) → IsLone k → cells_of_key k ≡ plain_cells k.width k.bytes
lone_line k lone =
    let w = k.width in
    ap (λ ss. cells_of_key (record { bytes = k.bytes; spans = ss; width = w; tabstop = k.tabstop; looks = k.looks })) lone.spans
    ∙ cells_of_plain w k.tabstop k.bytes k.looks (omega (arith, lone.short)) lone.plain
    ∙ ap (λ n. map byte_cell k.bytes ++ replicate n (space empty_attr)) (blanks_of w (length k.bytes) lone.some lone.short)

-- such a line is one row
pub lone_is_found : (k : LineKey) → IsLone k → IsFound k (plain_cells k.width k.bytes) 1
lone_is_found k lone = record {
  rows =
      let wide : 0 < k.width = omega (arith, lone.short) in
      sym (div_self wide) ∙ ap (λ n. n / k.width) (sym (ap length (lone_line k lone) ∙ lone_count k.width k.bytes lone.short));
  same = λ some. sym (lone_line k lone);
}

front_is : (w from : ℕ) (line : List ℕ) → from ≤ length line → take from (plain_cells w line) ≡ map byte_cell (take from line)
front_is w from line le =
    take-append-le from (map byte_cell line) (replicate (w - length line) (space empty_attr)) (omega (arith, le, length-map line byte_cell))
    ∙ take-map byte_cell from line

back_is : (w to : ℕ) (line : List ℕ)
    → drop to (plain_cells w line) ≡ map byte_cell (drop to line) ++ replicate (w - (length line + (to - length line))) (space empty_attr)
back_is w to line =
    let blanks = w - length line in
    drop-append to (map byte_cell line) (replicate blanks (space empty_attr))
    ∙ ap₂ (λ (xs ys : List Cell). xs ++ ys) (drop-map byte_cell to line)
    (drop-replicate (to - length (map byte_cell line)) blanks (space empty_attr)
    ∙ ap (λ n. replicate n (space empty_attr)) (omega (arith, length-map line byte_cell)))

rows_like : (w : ℕ) (a b : List ℕ) (from to : ℕ) → length a < w → length b < w → DifferBetween a b from to
    → IsLikeBut (plain_cells w a) (plain_cells w b) from to
rows_like w a b from to in_a in_b d = record {
  order = d.order;
  within = omega (arith, d.within, in_a, in_b, lone_count w b in_b);
  count = lone_count w a in_a ∙ sym (lone_count w b in_b);
  some = omega (arith, in_b, lone_count w b in_b);
  front = front_is w from a d.in_a ∙ ap (map byte_cell) d.front ∙ sym (front_is w from b d.in_b);
  back = back_is w to a
      ∙ ap₂ (λ (cs : List ℕ) n. map byte_cell cs ++ replicate (w - n) (space empty_attr)) d.back d.ends
      ∙ sym (back_is w to b);
}

-- rows whose bytes are known
pub places_are : (a b : LentRow) (w : ℕ) (old new : List ℕ) (from to : ℕ) → IsOfLine a → lent_cells a ≡ plain_cells w old
    → lent_cells b ≡ plain_cells w new → length old < w → length new < w → DifferBetween old new from to
    → IsLikeBut (placed_cells a) (lent_cells b) from to
places_are a b w old new from to of_a cells_a cells_b in_old in_new d =
    let placed : placed_cells a ≡ plain_cells w old =
    sym (of_a.cells (omega (arith, in_old, ap length cells_a, lone_count w old in_old))) ∙ cells_a in
    subst (λ (q : List Cell × List Cell). IsLikeBut q.0 q.1 from to) (λ i. (sym placed i, sym cells_b i))
    (rows_like w old new from to in_old in_new d)

-- ---- blocks of texts

pub block_back : (a b : List ℕ) (start end : ℕ) → start ≤ end → take (end - start) (drop start a) ≡ take (end - start) (drop start b)
    → drop end a ≡ drop end b → drop start a ≡ drop start b
block_back a b start end le same back =
    let n = end - start in
    let at : start + n ≡ end = omega (arith, le) in
    let in_a : drop n (drop start a) ≡ drop end a = drop-drop n start a ∙ ap (λ k. drop k a) at in
    let in_b : drop n (drop start b) ≡ drop end b = drop-drop n start b ∙ ap (λ k. drop k b) at in
    sym (take-append-drop n (drop start a))
    ∙ (λ i. same i ++ (in_a ∙ back ∙ sym in_b) i)
    ∙ take-append-drop n (drop start b)
