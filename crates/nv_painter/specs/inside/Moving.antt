-- inside: windows whose text moved.
use Rattle.std.specs.Prelude.{◌≡◌, ℕ, ℤ, pos, neg_ℤ, ◌+◌, ◌-◌, ◌^◌, ◌<◌, Bool, false, true, ◌&&◌, nat_le, nat_lt, if◌then◌else◌, List, [], ◌∷◌, get_or, length, replicate, IfSome, Option, Some, None}
use Rattle.nv_hl.specs.declared.cell.Cell.{Cell}
use Rattle.nv_hl.specs.Cells.{Screen}
use Rattle.nv_linegrid.specs.Client.{Shown, ShownRows, cells_from, row_between, row_from}
use Rattle.nv_linegrid.specs.Scrolls.{Shift, shifts_between}
use Rattle.nv_linegrid.specs.Told.{View, blank_shown_rows}
use Rattle.nv_painter.specs.inside.Lent.{IsLikeBut}

-- inside: rows up, or down as a number below 0
abbrev pub rows_up : ℕ → Bool → ℤ
rows_up rows Bool.true = neg_ℤ (pos rows)
rows_up rows Bool.false = pos rows

-- inside: the cells of a window have rows and columns of 32 bits
pub record EndsInReach (v : View) : Type 0 where
  pub rows : v.row + v.height < 2 ^ 32
  pub cols : v.col + v.width < 2 ^ 32

-- inside: the row at a place after a shift
abbrev pub row_after_shift : Shift → ShownRows → ℕ → List (Option Shown)
row_after_shift s rows k =
    if nat_le s.top k && nat_lt k s.bot
    then
    row_between s.left s.right (cells_from rows (row_from s.top s.bot s.rows k)) 0
    (get_or rows k [])
    else get_or rows k []

-- inside: a shift moves a row to a place
pub record ComesFrom (s : Shift) (k from : ℕ) : Type 0 where
  pub within : (nat_le s.top k && nat_lt k s.bot) ≡ true
  pub comes : row_from s.top s.bot s.rows k ≡ Some from

-- inside: each row has so many cells
abbrev pub AreWide : ShownRows → ℕ → Type 0
AreWide rows width = (k : ℕ) → k < length rows → length (get_or rows k []) ≡ width

-- inside: the place of the row that comes to row k where those from top to before end move up by n,
-- and those that leave come in below
abbrev pub turned_from : ℕ → ℕ → ℕ → ℕ → ℕ
turned_from top end n k =
    if nat_le top k && nat_lt k end
    then if nat_lt (k + n) end then k + n else k + n - (end - top)
    else k

-- inside: rows after such a turn
pub record AreTurned (rows turned : ShownRows) (top end n : ℕ) : Type 0 where
  pub count : length turned ≡ length rows
  pub comes : (k : ℕ) → get_or turned k [] ≡ get_or rows (turned_from top end n k) []

-- inside: rows of which those from one to before another are unknown
pub record AreForgotten (rows after : ShownRows) (from to width : ℕ) : Type 0 where
  pub count : length after ≡ length rows
  pub cells : (k : ℕ) → get_or after k []
      ≡ (if nat_le from k && nat_lt k to then replicate width None else get_or rows k [])

-- inside: no shift moves a row
abbrev pub StaysIn : List Shift → ℕ → Type 0
StaysIn [] k = Unit {0}
StaysIn (s ∷ ss) k = ((nat_le s.top k && nat_lt k s.bot) ≡ false) × StaysIn ss k

-- inside: how windows' texts moved, not at all where the size is new
abbrev pub moves : Bool → List View → List View → List Shift
moves Bool.true olds news = []
moves Bool.false olds news = shifts_between olds news

-- inside: the rows that move: spaces where the size is new
abbrev pub rows_to_move : Bool → ShownRows → Screen → ShownRows
rows_to_move Bool.true rows s = blank_shown_rows s.width s.height
rows_to_move Bool.false rows s = rows

-- inside: the row at a place is that which a shift brings there, and it has cells
pub record ComesAsIs (s : Shift) (before drawn : List (List Cell)) (k : ℕ) : Type 0 where
  pub from : ℕ
  pub is : ComesFrom s k from
  pub same : get_or before from [] ≡ get_or drawn k []
  pub some : 0 < length (get_or drawn k [])

-- inside: no shift, and rows that are the same but for some cells
abbrev pub StayBut : List Shift → List (Option (ℕ × ℕ)) → List (List Cell) → List (List Cell)
    → Type 0
StayBut shifts known before drawn =
    (k : ℕ) → IfSome (get_or known k None)
    (λ d. (shifts ≡ []) × IsLikeBut (get_or before k []) (get_or drawn k []) d.0 d.1)

-- inside: the same of the only shift, which is as wide as the screen
pub record ComesWhole (shifts : List Shift) (width : ℕ) (before drawn : List (List Cell)) (k : ℕ)
    : Type 0 where
  pub shift : Shift
  pub only : shifts ≡ shift ∷ []
  pub left : shift.left ≡ 0
  pub right : shift.right ≡ width
  pub row : ComesAsIs shift before drawn k
