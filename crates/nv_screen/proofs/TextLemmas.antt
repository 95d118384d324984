-- Lemmas on the rows of a window's text.
use Rattle.std.proofs.Common.{◌≡◌, ◌<◌, ◌≤◌, ◌+◌, ◌-◌, ◌*◌, ◌/◌, ℕ, zero, suc, true, false, cond, nat_le, List, [], ◌∷◌, ◌++◌, length, take, drop, refl, sym, ap, ◌∙◌, arith}
use Rattle.std.proofs.Math.Nat.{mul-div_cancel, mul-le-mul_right, suc-mul}
use Rattle.std.proofs.lemmas.Bool.Decides.{nat_tests}
use Rattle.std.proofs.lemmas.List.{drop-take, take-take, take_all}
use Rattle.nv_hl.specs.declared.cell.Cell.{Cell}
use Rattle.nv_hl.specs.Cells.{Screen, with_strip}
use Rattle.nv_linedraw.specs.declared.looks.Looks.{Looks}
use Rattle.nv_linedraw.specs.LineCells.{rows_of_line}
use Rattle.nv_linedraw.proofs.RowLemmas.{rows_among}
use Rattle.nv_linedraw.proofs.WholeLemmas.{rows_are_whole}
use Rattle.nv_screen.specs.declared.scene.SceneLine.{SceneLine}
use Rattle.nv_screen.specs.Drawing.{last_with_at, line_rows, row_with_at, rows_of_cells, scene_cells, text_rows, with_rows}
use Rattle.nv_screen.specs.inside.Laying.{cells_behind}

-- ---- rows one behind another

pub with_rows-append : (rows : List (List Cell)) (row col : ℕ) (xs ys : List (List Cell))
    → with_rows rows row col (xs ++ ys) ≡ with_rows (with_rows rows row col xs) (row + length xs) col ys
with_rows-append rows row col [] ys = let same : row ≡ row + 0 = omega arith in ap (λ r. with_rows rows r col ys) same
with_rows-append rows row col (x ∷ xs) ys =
    let next : row + 1 + length xs ≡ row + suc (length xs) = omega arith in
    with_rows-append (with_strip rows row col x) (row + 1) col xs ys
    ∙ ap (λ r. with_rows (with_rows (with_strip rows row col x) (row + 1) col xs) r col ys) next

pub length-rows_of_cells : (n w : ℕ) (cs : List Cell) → length (rows_of_cells n w cs) ≡ n
length-rows_of_cells zero w cs = refl
length-rows_of_cells (suc n) w cs = ap suc (length-rows_of_cells n w (drop w cs))

pub rows_of-take : (n w m : ℕ) (cs : List Cell) → n * w ≤ m → rows_of_cells n w (take m cs) ≡ rows_of_cells n w cs
rows_of-take zero w m cs le = refl
rows_of-take (suc n) w m cs le =
    let wide : w + n * w ≤ m = omega (arith, le, suc-mul n w) in
    let split : m ≡ w + (m - w) = omega arith in
    let first : take w (take m cs) ≡ take w cs = take-take w m cs (omega arith) in
    let rest : drop w (take m cs) ≡ take (m - w) (drop w cs) = ap (λ k. drop w (take k cs)) split ∙ drop-take w (m - w) cs in
    (λ i. first i ∷ rows_of_cells n w (rest i))
    ∙ ap (λ r. take w cs ∷ r) (rows_of-take n w (m - w) (drop w cs) (omega arith))

-- the rows of a line, the last of them with `@`
pub last_is_behind : (n w : ℕ) (looks : Looks) (cs : List Cell)
    → last_with_at w looks (rows_of_cells (suc n) w cs) ≡ rows_of_cells n w cs ++ row_with_at w looks (take w (cells_behind n w cs)) ∷ []
last_is_behind zero w looks cs = refl
last_is_behind (suc n) w looks cs = ap (λ r. take w cs ∷ r) (last_is_behind n w looks (drop w cs))

pub cut_laid : (g h k : Screen) (row col w n room : ℕ) (looks : Looks) (cells first rest last ended : List Cell)
    → n ≡ room - 1 → 0 < room
    → first ≡ cells
    → h ≡ record g { rows = with_rows g.rows row col (rows_of_cells n w first) }
    → rest ≡ cells_behind n w first
    → last ≡ take w rest
    → ended ≡ row_with_at w looks last
    → k ≡ record h { rows = with_strip h.rows (row + n) col ended }
    → k ≡ record g { rows = with_rows g.rows row col (last_with_at w looks (rows_of_cells room w cells)) }
cut_laid g h k row col w n room looks cells first rest last ended is some all laid behind taken put done =
    let count : suc n ≡ room = omega arith in
    let xs = rows_of_cells n w first in
    let r : ended ≡ row_with_at w looks (take w (cells_behind n w first)) = put ∙ ap (row_with_at w looks) (taken ∙ ap (take w) behind) in
    let row_is : row + n ≡ row + length xs = omega (arith, length-rows_of_cells n w first) in
    done
    ∙ (λ i. record (laid i) { rows = with_strip (laid i).rows (row_is i) col (r i) })
    ∙ (λ i. record g { rows = sym (with_rows-append g.rows row col xs (row_with_at w looks (take w (cells_behind n w first)) ∷ [])) i })
    ∙ (λ i. record g { rows = with_rows g.rows row col (sym (last_is_behind n w looks first) i) })
    ∙ (λ i. record g { rows = with_rows g.rows row col (last_with_at w looks (rows_of_cells (count i) w (all i))) })

-- ---- the rows of a line

module _ (w t : ℕ) (looks : Looks) where
  -- how many rows a line has
  pub rows_counted : (line : SceneLine) → 0 < w → 0 < t → length (scene_cells w t looks line) / w ≡ rows_of_line w t line.bytes
  rows_counted line wide tab =
      ap (λ n. n / w) (rows_are_whole w t line.bytes line.spans.items looks wide tab).0
      ∙ mul-div_cancel (rows_of_line w t line.bytes) wide

  pub some_rows : (line : SceneLine) → 0 < w → 0 < t → 0 < length (scene_cells w t looks line) / w
  some_rows line wide tab =
      omega (arith, rows_counted line wide tab, (rows_are_whole w t line.bytes line.spans.items looks wide tab).1)

  -- no line shows where there is no room
  pub no_room : (lines : List SceneLine) → 0 < w → 0 < t → text_rows w t looks 0 lines ≡ []
  no_room [] wide tab = refl
  no_room (line ∷ lines) wide tab =
      let cs = scene_cells w t looks line in
      let some = some_rows line wide tab in
      let no : nat_le (length cs / w) 0 ≡ false = grind (arith, nat_tests) in
      ap (λ b. cond b (rows_of_cells (length cs / w) w cs ++ text_rows w t looks (0 - length cs / w) lines) (last_with_at w looks (rows_of_cells 0 w cs))) no

  -- a line of which not all rows fit
  pub cut_rows : (room : ℕ) (line : SceneLine) (cells : List Cell) (more : ℕ → List (List Cell)) → 0 < w
      → cells ≡ take ((room + 1) * w) (scene_cells w t looks line) → room < length cells / w
      → line_rows w looks room (scene_cells w t looks line) more ≡ last_with_at w looks (rows_of_cells room w cells)
  cut_rows room line cells more wide is many =
      let cs = scene_cells w t looks line in
      let among = rows_among w (room + 1) cells cs wide is in
      let past : room < length cs / w = omega (arith, among, many) in
      let no : nat_le (length cs / w) room ≡ false = grind (arith, nat_tests) in
      let enough : room * w ≤ (room + 1) * w = omega (arith, suc-mul room w) in
      ap (λ b. cond b (rows_of_cells (length cs / w) w cs ++ more (room - length cs / w)) (last_with_at w looks (rows_of_cells room w cs))) no
      ∙ ap (last_with_at w looks) (sym (ap (rows_of_cells room w) is ∙ rows_of-take room w ((room + 1) * w) cs enough))

  -- a line all of whose rows fit
  pub whole_rows : (room : ℕ) (line : SceneLine) (cells : List Cell) (more : ℕ → List (List Cell)) → 0 < w → 0 < t
      → cells ≡ take ((room + 1) * w) (scene_cells w t looks line) → length cells / w ≤ room
      → line_rows w looks room (scene_cells w t looks line) more ≡ rows_of_cells (length cells / w) w cells ++ more (room - length cells / w)
  whole_rows room line cells more wide tab is few =
      let cs = scene_cells w t looks line in
      let n = rows_of_line w t line.bytes in
      let whole = rows_are_whole w t line.bytes line.spans.items looks wide tab in
      let among = rows_among w (room + 1) cells cs wide is in
      let within : length cs / w ≤ room = omega (arith, among, few) in
      let fits : n ≤ room = omega (arith, rows_counted line wide tab) in
      let short : length cs ≤ (room + 1) * w = omega (arith, whole.0, suc-mul room w, mul-le-mul_right w fits) in
      let yes : nat_le (length cs / w) room ≡ true = grind (arith, nat_tests) in
      let all : cells ≡ cs = is ∙ take_all ((room + 1) * w) cs short in
      ap (λ b. cond b (rows_of_cells (length cs / w) w cs ++ more (room - length cs / w)) (last_with_at w looks (rows_of_cells room w cs))) yes
      ∙ (λ i. rows_of_cells (length (sym all i) / w) w (sym all i) ++ more (room - length (sym all i) / w))

-- ---- a line laid

pub cut_line : (g h : Screen) (at next col w room : ℕ) (looks : Looks) (cs cells : List Cell) (more : ℕ → List (List Cell)) → more 0 ≡ []
    → line_rows w looks room cs more ≡ last_with_at w looks (rows_of_cells room w cells)
    → h ≡ record g { rows = with_rows g.rows at col (last_with_at w looks (rows_of_cells room w cells)) }
    → record h { rows = with_rows h.rows next col (more 0) } ≡ record g { rows = with_rows g.rows at col (line_rows w looks room cs more) }
cut_line g h at next col w room looks cs cells more none is laid =
    (λ i. record h { rows = with_rows h.rows next col (none i) }) ∙ laid
    ∙ (λ i. record g { rows = with_rows g.rows at col (sym is i) })

pub whole_line : (g h : Screen) (at next col w room n : ℕ) (looks : Looks) (cs cells : List Cell) (more : ℕ → List (List Cell))
    → line_rows w looks room cs more ≡ rows_of_cells n w cells ++ more (room - n)
    → next ≡ at + n
    → h ≡ record g { rows = with_rows g.rows at col (rows_of_cells n w cells) }
    → record h { rows = with_rows h.rows next col (more (room - n)) } ≡ record g { rows = with_rows g.rows at col (line_rows w looks room cs more) }
whole_line g h at next col w room n looks cs cells more is below laid =
    let xs = rows_of_cells n w cells in
    let row_is : next ≡ at + length xs = omega (arith, length-rows_of_cells n w cells) in
    (λ i. record (laid i) { rows = with_rows (laid i).rows (row_is i) col (more (room - n)) })
    ∙ (λ i. record g { rows = sym (with_rows-append g.rows at col xs (more (room - n))) i })
    ∙ (λ i. record g { rows = with_rows g.rows at col (sym is i) })
