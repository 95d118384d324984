-- inside: keys and rows that are lent.
use Rattle.std.specs.Prelude.{◌≡◌, ◌<◌, ◌≤◌, ◌+◌, ◌-◌, ◌*◌, ◌/◌, ℕ, true, IfSome, List, [], ◌∷◌, ◌++◌, drop, get_or, length, map, replicate, take, Option, None, Some}
use Rattle.std.specs.Int.{is_in_range}
use Rattle.std.specs.List.{list_all}
use Rattle.std.specs.Hash.{u32}
use Rattle.nv_hl.specs.declared.cell.Cell.{Cell}
use Rattle.nv_hl.specs.Attributes.{empty_attr}
use Rattle.nv_hl.specs.Cells.{space}
use Rattle.nv_linedraw.specs.inside.Plain.{byte_cell}
use Rattle.nv_painter.specs.declared.key.LentKey.{LentKey}
use Rattle.nv_painter.specs.declared.lent.LentCells.{LentCells}
use Rattle.nv_painter.specs.declared.lent.LentCells.TheVariants.{Drawn, Plain}
use Rattle.nv_painter.specs.declared.lent.LentRow.{LentRow}
use Rattle.nv_painter.specs.Keys.{LineKey, cells_of_key}

-- inside: the key that is lent
abbrev pub lent_content : LentKey → LineKey
lent_content k = record {
  bytes = k.bytes.now;
  spans = k.spans.now;
  width = k.width;
  tabstop = k.tabstop;
  looks = k.looks.now;
}

-- inside: what is hashed of a key
abbrev pub key_writes : LineKey → List (List ℕ)
key_writes k = k.bytes ∷ u32 k.width

-- inside: the row of a line that has this number
abbrev pub row_of_key : LineKey → ℕ → List Cell
row_of_key k n = take k.width (drop (n * k.width) (cells_of_key k))

-- inside: the same of a line that is lent; no cells without a line
abbrev pub cells_placed : Option LentKey → ℕ → List Cell
cells_placed None n = []
cells_placed (Some k) n = row_of_key (lent_content k) n

-- inside: the cells of the row of a line that a row is, known or not
abbrev pub placed_cells : LentRow → List Cell
placed_cells r = cells_placed r.line r.number

-- inside: the same of rows
abbrev pub placed_rows : List LentRow → List (List Cell)
placed_rows rows = map placed_cells rows

-- inside: bytes as cells, with spaces behind them where they are fewer than so many
abbrev pub plain_cells : ℕ → List ℕ → List Cell
plain_cells width bytes =
    map byte_cell bytes ++ replicate (width - length bytes) (space empty_attr)

-- inside: cells that are lent
abbrev pub cells_lent : LentCells → List Cell
cells_lent (Drawn cells) = cells.now
cells_lent (Plain bytes width) = plain_cells width bytes.now

-- inside: the cells that are known of a row
abbrev pub lent_cells : LentRow → List Cell
lent_cells r = cells_lent r.cells

-- inside: the same of rows
abbrev pub lent_rows : List LentRow → List (List Cell)
lent_rows rows = map lent_cells rows

-- inside: a row that is of a line has cells, and those known are these
pub record IsOfLine (r : LentRow) : Type 0 where
  pub some : IfSome r.line (λ k. 0 < length (placed_cells r))
  pub cells : 0 < length (lent_cells r) → lent_cells r ≡ placed_cells r

-- inside: a line has so many rows, and those of its cells that are known are all of them
pub record IsFound (k : LineKey) (cells : List Cell) (count : ℕ) : Type 0 where
  pub rows : count ≡ length (cells_of_key k) / k.width
  pub same : 0 < length cells → cells ≡ cells_of_key k

-- inside: each row that has cells is the screen's
abbrev pub AreLent : List (List Cell) → List (List Cell) → Type 0
AreLent rows screen =
    (k : ℕ) → 0 < length (get_or rows k []) → get_or rows k [] ≡ get_or screen k []

-- inside: a line without spans that is one row of printable ASCII and spaces behind them
pub record IsLone (k : LineKey) : Type 0 where
  pub some : 0 < length k.bytes
  pub short : length k.bytes < k.width
  pub spans : k.spans ≡ []
  pub plain : list_all (is_in_range 0x20 0x7E) k.bytes ≡ true

-- inside: two texts, with spaces behind them, differ between two places alone
pub record DifferBetween (a b : List ℕ) (from to : ℕ) : Type 0 where
  pub order : from ≤ to
  pub in_a : from ≤ length a
  pub in_b : from ≤ length b
  pub within : to ≤ length a + (length b - length a)
  pub ends : length a + (to - length a) ≡ length b + (to - length b)
  pub front : take from a ≡ take from b
  pub back : drop to a ≡ drop to b

-- inside: two rows that have cells have the same ones, but for those between two places
pub record IsLikeBut (old new : List Cell) (from to : ℕ) : Type 0 where
  pub order : from ≤ to
  pub within : to ≤ length new
  pub count : length old ≡ length new
  pub some : 0 < length new
  pub front : take from old ≡ take from new
  pub back : drop to old ≡ drop to new

-- inside: the same of each row for which two places are known
abbrev pub AreLike : List (Option (ℕ × ℕ)) → List (List Cell) → List (List Cell) → Type 0
AreLike known before drawn =
    (k : ℕ) → IfSome (get_or known k None)
    (λ d. IsLikeBut (get_or before k []) (get_or drawn k []) d.0 d.1)
