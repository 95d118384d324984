-- What a client shows, and how an event changes it (help: ui-linegrid).
use Rattle.std.specs.Prelude.{◌≡◌, ℕ, suc, ℤ, pos, negsuc, ◌+◌, ◌-◌, Bool, ◌&&◌, ◌==◌, nat_lt, nat_le, if◌then◌else◌, List, [], ◌∷◌, ◌++◌, length, map, take, drop, get_or, set, replicate, Option, Some, None, is_some, option_map, option_and_then}
use Rattle.std.specs.Ordering.{int_eq}
use Rattle.nv_hl.specs.declared.attribute.Attr.{Attr}
use Rattle.nv_hl.specs.declared.cell.Cell.{Cell}
use Rattle.nv_hl.specs.declared.colours.Colours.{Colours}
use Rattle.nv_hl.specs.Attributes.{empty_attr}
use Rattle.nv_hl.specs.Cells.{Screen}
use Rattle.nv_linegrid.specs.declared.event.Run.{Run}
use Rattle.nv_linegrid.specs.declared.event.Run.TheVariants.{Same, One, Times}
use Rattle.nv_linegrid.specs.declared.event.Redraw.{Redraw}
use Rattle.nv_linegrid.specs.declared.event.Redraw.TheVariants.{Resize, DefaultColors, HlAttr, Clear, Scroll, LineOf, Goto, Flush}

-- a cell as it is shown: its text, and the id of its attribute
pub record Shown : Type 0 where
  pub text : List ℕ
  pub id : ℕ

abbrev pub shown_of : List ℕ → ℕ → Shown
shown_of text id = record { text = text; id = id }

-- the rows of a screen, in which a cell may be unknown
abbrev pub ShownRows : Type 0
ShownRows = List (List (Option Shown))

-- a client's screen: its size in columns and rows, its cells, the attributes of ids with the newest
-- first, default colours, and the row and column of the cursor
pub record Client : Type 0 where
  pub size : Option (ℕ × ℕ)
  pub rows : ShownRows
  pub table : List (ℕ × Attr)
  pub colours : Option Colours
  pub cursor : Option (ℕ × ℕ)

-- id 0 is the empty attribute
abbrev pub first_table : List (ℕ × Attr)
first_table = (0, empty_attr) ∷ []

-- a client to which nothing was told
abbrev pub first_client : Client
first_client = record { size = None; rows = []; table = first_table; colours = None; cursor = None }

-- the attribute that an id has now
abbrev pub attr_of_id : List (ℕ × Attr) → ℕ → Option Attr
attr_of_id [] id = None
attr_of_id (e ∷ es) id = if e.0 == id then Some e.1 else attr_of_id es id

-- ---- cells of a row

-- cells before those of the runs behind them
abbrev pub cells_before : List Shown → Option (List Shown) → Option (List Shown)
cells_before front rest = option_map (λ cells. front ++ cells) rest

-- the cells that runs tell, where `last` is the id told last; none where an id is missing
abbrev pub cells_told : Option ℕ → List Run → Option (List Shown)
cells_told last [] = Some []
cells_told None (Same text ∷ runs) = None
cells_told (Some id) (Same text ∷ runs) =
    cells_before (shown_of text id ∷ []) (cells_told (Some id) runs)
cells_told last (One text id ∷ runs) =
    cells_before (shown_of text id ∷ []) (cells_told (Some id) runs)
cells_told last (Times text id n ∷ runs) =
    cells_before (replicate n (shown_of text id)) (cells_told (Some id) runs)

-- whether each id that runs name stands for an attribute
abbrev pub names_known_ids : List (ℕ × Attr) → List Run → Bool
names_known_ids table [] = Bool.true
names_known_ids table (Same text ∷ runs) = names_known_ids table runs
names_known_ids table (One text id ∷ runs) =
    is_some (attr_of_id table id) && names_known_ids table runs
names_known_ids table (Times text id n ∷ runs) =
    is_some (attr_of_id table id) && names_known_ids table runs

-- a row with cells in place of its own from a column on
abbrev pub row_with : List (Option Shown) → ℕ → List Shown → List (Option Shown)
row_with row col cells = take col row ++ map Some cells ++ drop (col + length cells) row

-- a row of spaces without an attribute, as long as this one
abbrev pub row_of_spaces : List (Option Shown) → List (Option Shown)
row_of_spaces row = map (λ c. Some (shown_of (32 ∷ []) 0)) row

-- ---- scrolling

-- the row that comes to row k, and none where it comes from outside
abbrev pub row_from : ℕ → ℕ → ℤ → ℕ → Option ℕ
row_from top bot (pos n) k = if nat_lt (k + n) bot then Some (k + n) else None
row_from top bot (negsuc n) k = if nat_le (top + suc n) k then Some (k - suc n) else None

-- the cells of that row
abbrev pub cells_from : ShownRows → Option ℕ → List (Option Shown)
cells_from rows None = []
cells_from rows (Some j) = get_or rows j []

-- from column i on: a row with the cells of another in the columns from left to before right
abbrev pub row_between : ℕ → ℕ → List (Option Shown) → ℕ → List (Option Shown) → List (Option Shown)
row_between left right source i [] = []
row_between left right source i (c ∷ cs) =
    (if nat_le left i && nat_lt i right then get_or source i None else c)
    ∷ row_between left right source (i + 1) cs

-- from row k on, of rows that were `all`: those from top to before bot moved up by d rows
abbrev pub scrolled_from : ℕ → ℕ → ℕ → ℕ → ℤ → ShownRows → ℕ → ShownRows → ShownRows
scrolled_from top bot left right d all k [] = []
scrolled_from top bot left right d all k (r ∷ rs) =
    (if nat_le top k && nat_lt k bot then row_between left right
    (cells_from all (row_from top bot d k)) 0 r
    else r)
    ∷ scrolled_from top bot left right d all (k + 1) rs

-- rows after a scroll: what comes from outside is unknown (help: ui-event-grid_scroll)
abbrev pub rows_scrolled : ℕ → ℕ → ℕ → ℕ → ℤ → ShownRows → ShownRows
rows_scrolled top bot left right d rows = scrolled_from top bot left right d rows 0 rows

-- ---- one event, and events

abbrev pub is_in_size : Option (ℕ × ℕ) → ℕ → ℕ → Bool
is_in_size None row col = Bool.false
is_in_size (Some s) row col = nat_lt row s.1 && nat_lt col s.0

abbrev pub is_rectangle_in : Option (ℕ × ℕ) → ℕ → ℕ → ℕ → ℕ → Bool
is_rectangle_in None top bot left right = Bool.false
is_rectangle_in (Some s) top bot left right =
    nat_lt top bot && nat_le bot s.1 && nat_lt left right && nat_le right s.0

abbrev pub if_it_fits : Bool → Client → Option Client
if_it_fits Bool.true c = Some c
if_it_fits Bool.false c = None

-- the one grid of a client without ext_multigrid (help: ui-multigrid)
abbrev pub is_grid : ℤ → Bool
is_grid grid = int_eq grid (pos 1)

abbrev pub client_with_rows : Client → ShownRows → Client
client_with_rows c rows = record c { rows = rows }

-- whether cells lie in a row of these rows
abbrev pub fits_row : ShownRows → ℕ → ℕ → List Shown → Bool
fits_row rows row col cells =
    nat_lt row (length rows) && nat_le (col + length cells) (length (get_or rows row []))

abbrev pub client_with_cells : Client → ℕ → ℕ → List Run → Option (List Shown) → Option Client
client_with_cells c row col runs None = None
client_with_cells c row col runs (Some cells) =
    if_it_fits (fits_row c.rows row col cells && names_known_ids c.table runs)
    (client_with_rows c (set c.rows row (row_with (get_or c.rows row []) col cells)))

abbrev pub rows_unknown : ℕ → ℕ → ShownRows
rows_unknown width height = replicate height (replicate width None)

abbrev pub client_of_size : Client → ℕ → ℕ → Client
client_of_size c width height = record c {
  size = Some (width, height);
  rows = rows_unknown width height;
  cursor = None;
}

-- a client after an event; none where the event leaves the grid or its size, or uses an id that
-- stands for nothing
abbrev pub client_after : Client → Redraw → Option Client
client_after c (Resize grid width height) =
    if_it_fits (is_grid grid) (client_of_size c width height)
client_after c (DefaultColors colours) = Some (record c { colours = Some colours })
client_after c (HlAttr id attr) = Some (record c { table = (id, attr) ∷ c.table })
client_after c (Clear grid) =
    if_it_fits (is_grid grid && is_some c.size) (client_with_rows c (map row_of_spaces c.rows))
client_after c (Scroll grid top bot left right d) =
    if_it_fits (is_grid grid && is_rectangle_in c.size top bot left right)
    (client_with_rows c (rows_scrolled top bot left right d c.rows))
client_after c (LineOf grid row col cells) =
    if is_grid grid then client_with_cells c row col cells (cells_told None cells) else None
client_after c (Goto grid row col) =
    if_it_fits (is_grid grid && is_in_size c.size row col) (record c { cursor = Some (row, col) })
client_after c Flush = Some c

-- a client after events, and none where one of them doesn't fit
abbrev pub client_after_all : Client → List Redraw → Option Client
client_after_all c [] = Some c
client_after_all c (e ∷ es) = option_and_then (λ d. client_after_all d es) (client_after c e)

-- ---- what is seen

-- the cell that is seen: an id stands for the attribute that it has now
abbrev pub cell_seen : List (ℕ × Attr) → Option Shown → Option Cell
cell_seen table None = None
cell_seen table (Some s) =
    option_map (λ attr. record { text = s.text; attr = attr }) (attr_of_id table s.id)

-- the client shows this screen with its default colours and its cursor, and no cell is unknown
pub record ShowsScreen (c : Client) (s : Screen) (defaults : Colours) (place : ℕ × ℕ) : Type 0 where
  pub size : c.size ≡ Some (s.width, s.height)
  pub cells : map (map (cell_seen c.table)) c.rows ≡ map (map Some) s.rows
  pub colours : c.colours ≡ Some defaults
  pub cursor : c.cursor ≡ Some place
