-- What folds of attributes rest on, and what a screen is cell by cell.
use Rattle.std.specs.Prelude.{◌≡◌, ◌↔◌, ℕ, ◌+◌, ◌*◌, ◌<◌, true, [], slice_index_or}
use Rattle.std.specs.List.{flat_map}
use Rattle.nv_hl.specs.declared.cell.Cell.{Cell}
use Rattle.nv_hl.specs.declared.attribute.Attr.{Attr}
use Rattle.nv_hl.specs.Attributes.{empty_attr, combined, same_attr}
use Rattle.nv_hl.specs.Cells.{Screen, IsSized}

-- attributes laid over one another in order combine in whatever way they are bracketed
abbrev pub CombiningIsAssociative : Type 0
CombiningIsAssociative = (low middle high : Attr)
    → combined (combined low middle) high ≡ combined low (combined middle high)

-- the empty attribute changes nothing, below or above
abbrev pub EmptyChangesNothing : Type 0
EmptyChangesNothing =
    (attr : Attr) → (combined empty_attr attr ≡ attr) × (combined attr empty_attr ≡ attr)

-- attributes that are the same field by field are equal, and each is the same as itself
abbrev pub SameAttrsAreEqual : Type 0
SameAttrsAreEqual = (a b : Attr) → (same_attr a b ≡ true) ↔ (a ≡ b)

-- the cells of a screen row by row: each stands where its row and column say
abbrev pub CellsStandByRows : Type 0
CellsStandByRows =
    (s : Screen) → IsSized s → (row col : ℕ) (none : Cell) → row < s.height → col < s.width
    → slice_index_or (flat_map (λ r. r) s.rows) (row * s.width + col) none
    ≡ slice_index_or (slice_index_or s.rows row []) col none
