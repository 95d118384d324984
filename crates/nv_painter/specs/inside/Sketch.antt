-- inside: a screen of which only the rows are drawn that may differ from what is shown.
use Rattle.std.specs.Prelude.{◌≡◌, ℕ, Bool, false, true, List, [], get_or, length, map, Option, Some}
use Rattle.std.specs.List.{AllByRecursion}
use Rattle.nv_hl.specs.declared.attribute.Attr.{Attr}
use Rattle.nv_hl.specs.declared.cell.Cell.{Cell}
use Rattle.nv_linegrid.specs.Client.{Shown, ShownRows}
use Rattle.nv_linegrid.specs.Told.{has_id, id_of, shown_cell}

-- inside: an attribute has an id, which is this one
pub record IsIdOf (attrs : List Attr) (attr : Attr) (id : ℕ) : Type 0 where
  pub has : has_id attrs attr ≡ true
  pub is : id ≡ id_of attrs attr

-- inside: the attributes of cells have ids
abbrev pub HaveIds : List Attr → List Cell → Type 0
HaveIds attrs cells = AllByRecursion (λ c. has_id attrs c.attr ≡ true) cells

-- inside: a row shows these cells, whose attributes have ids
pub record ShowsCells (attrs : List Attr) (cells : List Cell)
    (row : List (Option Shown)) : Type 0 where
  pub ids : HaveIds attrs cells
  pub row_is : row ≡ map Some (map (shown_cell attrs) cells)

-- inside: each row with a flag shows its cells
abbrev pub AreShown : List Bool → List Attr → List (List Cell) → ShownRows → Type 0
AreShown flags attrs screen rows =
    (k : ℕ) → get_or flags k false ≡ true
    → ShowsCells attrs (get_or screen k []) (get_or rows k [])

-- inside: each row without one is drawn
abbrev pub AreDrawn : List Bool → List (List Cell) → List (List Cell) → Type 0
AreDrawn flags drawn screen =
    (k : ℕ) → get_or flags k false ≡ false → get_or drawn k [] ≡ get_or screen k []

-- inside: of a screen each row is drawn, or has a flag and is shown; all are as wide as those shown
pub record IsSketch (flags : List Bool) (drawn : List (List Cell)) (attrs : List Attr)
    (rows : ShownRows)
    (screen : List (List Cell)) : Type 0 where
  pub high : length screen ≡ length drawn
  pub drawn_is : AreDrawn flags drawn screen
  pub shown : AreShown flags attrs screen rows
  pub wide : (k : ℕ) → length (get_or rows k []) ≡ length (get_or screen k [])
