-- Which windows are scrolled, by how much (own rule; help: ui-event-grid_scroll).
use Rattle.std.specs.Prelude.{ℕ, ℤ, pos, neg_ℤ, ◌+◌, ◌-◌, Bool, ◌&&◌, ◌==◌, nat_lt, nat_le, if◌then◌else◌, List, [], ◌∷◌, ◌++◌, length, take, sum}
use Rattle.std.specs.Ordering.{int_eq}
use Rattle.nv_linegrid.specs.declared.event.Redraw.{Redraw}
use Rattle.nv_linegrid.specs.declared.event.Redraw.TheVariants.{Scroll}
use Rattle.nv_linegrid.specs.Client.{ShownRows, rows_scrolled}
use Rattle.nv_linegrid.specs.Told.{View}

-- a rectangle whose rows move up by `rows`, or down where that is below 0
pub record Shift : Type 0 where
  pub top : ℕ
  pub bot : ℕ
  pub left : ℕ
  pub right : ℕ
  pub rows : ℤ

-- the same window at the same place, on a text that is the same and is shown in the same rows
abbrev pub is_same_text : View → View → Bool
is_same_text a b =
    int_eq a.window b.window && (a.row == b.row) && (a.col == b.col) && (a.width == b.width)
    && (a.height == b.height) && int_eq a.buffer b.buffer && int_eq a.tick b.tick
    && (a.tabstop == b.tabstop)

-- the text of a window by d, which is n rows up or down, where part of it stays
abbrev pub shift_by : View → ℤ → ℕ → List Shift
shift_by v d n =
    if nat_lt 0 n && nat_lt n v.height then
    record { top = v.row; bot = v.row + v.height; left = v.col; right = v.col + v.width; rows = d }
    ∷ []
    else []

-- the rows of the first n lines of a view
abbrev pub rows_of_lines : ℕ → View → ℕ
rows_of_lines n v = sum (take n v.heights)

-- the text moves by the rows of the lines between the old first line and the new one, which the
-- scene that begins above shows
abbrev pub shift_between : View → View → List Shift
shift_between old new =
    if nat_le old.first new.first then
    (if nat_le (new.first - old.first) (length old.heights) then
    shift_by new (pos (rows_of_lines (new.first - old.first) old))
    (rows_of_lines (new.first - old.first) old)
    else [])
    else if nat_le (old.first - new.first) (length new.heights) then
    shift_by new (neg_ℤ (pos (rows_of_lines (old.first - new.first) new)))
    (rows_of_lines (old.first - new.first) new)
    else []

-- by the first old view with the same text
abbrev pub shift_in : List View → View → List Shift
shift_in [] new = []
shift_in (old ∷ olds) new =
    if is_same_text old new then shift_between old new else shift_in olds new

abbrev pub shifts_between : List View → List View → List Shift
shifts_between olds [] = []
shifts_between olds (new ∷ news) = shift_in olds new ++ shifts_between olds news

abbrev pub rows_after_shift : Shift → ShownRows → ShownRows
rows_after_shift s rows = rows_scrolled s.top s.bot s.left s.right s.rows rows

abbrev pub rows_after_shifts : List Shift → ShownRows → ShownRows
rows_after_shifts [] rows = rows
rows_after_shifts (s ∷ ss) rows = rows_after_shifts ss (rows_after_shift s rows)

abbrev pub scroll_of : Shift → Redraw
scroll_of s = Scroll (pos 1) s.top s.bot s.left s.right s.rows
