-- What folding the events of batches shows, which rows are told, and what a scroll moves.
use Rattle.std.specs.Prelude.{◌≡◌, ℕ, suc, ℤ, pos, negsuc, ◌+◌, ◌-◌, ◌<◌, ◌≤◌, Bool, ◌&&◌, nat_lt, nat_le, if◌then◌else◌, List, [], ◌∷◌, ◌++◌, length, take, drop, get_or, sum, Option, Some, None}
use Rattle.std.specs.List.{AllByRecursion}
use Rattle.nv_linegrid.specs.declared.event.Redraw.TheVariants.{Flush}
use Rattle.nv_linegrid.specs.Client.{Shown, ShownRows, Client, first_client, client_after_all, rows_scrolled, ShowsScreen}
use Rattle.nv_linegrid.specs.Told.{Told, Wanted, nothing_told, client_of, IsWhole, IsDrawn}
use Rattle.nv_linegrid.specs.Rows.{is_due, first_due, end_due, line_of_row}
use Rattle.nv_linegrid.specs.Batch.{batch, batches, told_after}

-- ---- batches

-- the events of a batch take a client from what was told to what is wanted, and no cell is unknown
pub record ShowsWanted (t : Told) (w : Wanted) : Type 0 where
  pub folds : client_after_all (client_of t) (batch t w) ≡ Some (client_of (told_after t w))
  pub shows : ShowsScreen (client_of (told_after t w)) w.screen w.colours w.cursor
  pub whole : IsWhole (told_after t w)

abbrev pub BatchShows : Type 0
BatchShows = (t : Told) (w : Wanted) → IsWhole t → IsDrawn w → ShowsWanted t w

-- a client that folded the events of batches from nothing on shows the screen that was wanted last
abbrev pub BatchesShowTheLast : Type 0
BatchesShowTheLast =
    (ws : List Wanted) (last : Wanted) → AllByRecursion IsDrawn ws → IsDrawn last
    → (c : Client) × (client_after_all first_client (batches nothing_told (ws ++ last ∷ []))
    ≡ Some c)
    × ShowsScreen c last.screen last.colours last.cursor

-- what is wanted again is told by a flush alone
abbrev pub SameIsFlush : Type 0
SameIsFlush = (t : Told) (w : Wanted) → IsDrawn w → batch (told_after t w) w ≡ Flush ∷ []

-- ---- lines

-- a line that is told begins and ends at a due cell
pub record IsAtDueCells (old : List (Option Shown)) (new : List Shown) : Type 0 where
  pub first : is_due old new (first_due old new (length new) 0) ≡ Bool.true
  pub last : is_due old new (end_due old new (length new) - 1) ≡ Bool.true

abbrev pub LinesBeginAndEndDue : Type 0
LinesBeginAndEndDue =
    (old : List (Option Shown)) (new : List Shown)
    → first_due old new (length new) 0 < end_due old new (length new) → IsAtDueCells old new

-- and a row without a due cell has no line
abbrev pub NoDueNoLine : Type 0
NoDueNoLine =
    (row : ℕ) (old : List (Option Shown)) (new : List Shown)
    → ((i : ℕ) → i < length new → is_due old new i ≡ Bool.false) → line_of_row row old new ≡ []

-- ---- scrolls

-- the cell at a row and a column
abbrev pub cell_at : ShownRows → ℕ → ℕ → Option Shown
cell_at rows row col = get_or (get_or rows row []) col None

-- the cell that a scroll by d brings to a row: one from outside the rectangle is unknown
abbrev pub cell_brought : ℕ → ℕ → ℤ → ShownRows → ℕ → ℕ → Option Shown
cell_brought top bot (pos n) rows row col =
    if nat_lt (row + n) bot then cell_at rows (row + n) col else None
cell_brought top bot (negsuc n) rows row col =
    if nat_le (top + suc n) row then cell_at rows (row - suc n) col else None

-- a scroll moves the cells of its rectangle, and leaves all others (help: ui-event-grid_scroll)
abbrev pub ScrollMoves : Type 0
ScrollMoves =
    (top bot left right : ℕ) (d : ℤ) (rows : ShownRows) (row col : ℕ) → row < length rows
    → col < length (get_or rows row [])
    → cell_at (rows_scrolled top bot left right d rows) row col
    ≡ (if nat_le top row && nat_lt row bot && nat_le left col && nat_lt col right then
    cell_brought top bot d rows row col
    else cell_at rows row col)

-- the rows between two lines, counted in a scene that begins at the upper one and shows n lines,
-- are those that the text has between them, where `heights` are the rows of all its lines
abbrev pub ScrollCountsRows : Type 0
ScrollCountsRows =
    (heights : List ℕ) (above below n : ℕ) → above ≤ below
    → below - above ≤ length (take n (drop above heights))
    → sum (take below heights) ≡ sum (take above heights)
    + sum (take (below - above) (take n (drop above heights)))
