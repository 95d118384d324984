-- The events of one batch, and what was told after it (own rule; help: ui-linegrid).
use Rattle.std.specs.Prelude.{ℕ, suc, pos, Bool, not, ◌&&◌, ◌==◌, List, [], ◌∷◌, ◌++◌, length, map, drop, Option, Some, None}
use Rattle.nv_hl.specs.declared.attribute.Attr.{Attr}
use Rattle.nv_hl.specs.declared.colours.Colours.{Colours}
use Rattle.nv_linegrid.specs.declared.event.Redraw.{Redraw}
use Rattle.nv_linegrid.specs.declared.event.Redraw.TheVariants.{Resize, DefaultColors, HlAttr, Clear, Goto, Flush}
use Rattle.nv_linegrid.specs.Client.{ShownRows}
use Rattle.nv_linegrid.specs.Told.{Told, Wanted, with_attrs_of_rows, shown_rows, known_rows, blank_shown_rows}
use Rattle.nv_linegrid.specs.Rows.{lines_of_rows}
use Rattle.nv_linegrid.specs.Scrolls.{Shift, shifts_between, rows_after_shifts, scroll_of}

-- an event, where it comes
abbrev pub event_if : Bool → Redraw → List Redraw
event_if Bool.true e = e ∷ []
event_if Bool.false e = []

-- attributes with their ids, the first of them n
abbrev pub attrs_defined : ℕ → List Attr → List Redraw
attrs_defined n [] = []
attrs_defined n (a ∷ attrs) = HlAttr n a ∷ attrs_defined (suc n) attrs

abbrev pub is_size : Option (ℕ × ℕ) → ℕ → ℕ → Bool
is_size None width height = Bool.false
is_size (Some s) width height = (s.0 == width) && (s.1 == height)

abbrev pub same_colours : Option Colours → Colours → Bool
same_colours None c = Bool.false
same_colours (Some d) c =
    (d.fg == c.fg) && (d.bg == c.bg) && (d.sp == c.sp) && (d.cterm_fg == c.cterm_fg)
    && (d.cterm_bg == c.cterm_bg)

abbrev pub is_place : Option (ℕ × ℕ) → ℕ × ℕ → Bool
is_place None p = Bool.false
is_place (Some q) p = (q.0 == p.0) && (q.1 == p.1)

-- whether the size differs from what was told
abbrev pub is_resized : Told → Wanted → Bool
is_resized t w = not (is_size t.size w.screen.width w.screen.height)

-- the attributes that have ids after the batch
abbrev pub attrs_after : Told → Wanted → List Attr
attrs_after t w = with_attrs_of_rows t.attrs w.screen.rows

-- the scrolls of a batch, none where the size is new
abbrev pub shifts_of : Bool → Told → Wanted → List Shift
shifts_of Bool.true t w = []
shifts_of Bool.false t w = shifts_between t.views w.views

-- the rows before the scrolls: spaces where the size is new
abbrev pub rows_to_scroll : Bool → Told → Wanted → ShownRows
rows_to_scroll Bool.true t w = blank_shown_rows w.screen.width w.screen.height
rows_to_scroll Bool.false t w = t.rows

-- the rows before the lines
abbrev pub rows_before_lines : Bool → Told → Wanted → ShownRows
rows_before_lines resized t w =
    rows_after_shifts (shifts_of resized t w) (rows_to_scroll resized t w)

-- the cursor before the batch tells it: a resize makes it unknown
abbrev pub cursor_before : Bool → Told → Option (ℕ × ℕ)
cursor_before Bool.true t = None
cursor_before Bool.false t = t.cursor

-- the events, by whether the size is new and by the attributes that have ids then
abbrev pub batch_by : Bool → Told → Wanted → List Attr → List Redraw
batch_by resized t w attrs =
    event_if resized (Resize (pos 1) w.screen.width w.screen.height)
    ++ event_if (not (same_colours t.colours w.colours)) (DefaultColors w.colours)
    ++ attrs_defined (suc (length t.attrs)) (drop (length t.attrs) attrs)
    ++ event_if resized (Clear (pos 1))
    ++ map scroll_of (shifts_of resized t w)
    ++ lines_of_rows 0 (rows_before_lines resized t w) (shown_rows attrs w.screen.rows)
    ++ event_if (not (is_place (cursor_before resized t) w.cursor))
    (Goto (pos 1) w.cursor.0 w.cursor.1)
    ++ Flush ∷ []

-- the batch that is due: size, colours, attributes by first cell, clear, scrolls, lines, cursor,
-- flush
unfoldable pub batch : Told → Wanted → List Redraw
batch t w = batch_by (is_resized t w) t w (attrs_after t w)

-- what was told once the batch was
unfoldable pub told_after : Told → Wanted → Told
told_after t w = record {
  size = Some (w.screen.width, w.screen.height);
  rows = known_rows (shown_rows (attrs_after t w) w.screen.rows);
  attrs = attrs_after t w;
  colours = Some w.colours;
  cursor = Some w.cursor;
  views = w.views;
}

-- the events of batches one after another
abbrev pub batches : Told → List Wanted → List Redraw
batches t [] = []
batches t (w ∷ ws) = batch t w ++ batches (told_after t w) ws
