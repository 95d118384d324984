-- Virtual texts in a window: which cells each shows, and where they are (help:
-- nvim_buf_set_extmark(), virt_text, virt_text_pos).
use Rattle.std.specs.Prelude.{ℕ, ◌+◌, ◌-◌, ◌/◌, ◌%◌, ◌==◌, ◌&&◌, Bool, nat_le, nat_lt, if◌then◌else◌, All, List, [], ◌∷◌, ◌++◌, length, map, replicate, slice_index_or, slice_set, take, Option, None, Some, unwrap_or}
use Rattle.std.specs.Option.{option_map_or}
use Rattle.nv_hl.specs.declared.attribute.Attr.{Attr}
use Rattle.nv_hl.specs.declared.cell.Cell.{Cell}
use Rattle.nv_hl.specs.Attributes.{empty_attr}
use Rattle.nv_hl.specs.Groups.{NamedGroup, attr_of}
use Rattle.nv_linedraw.specs.LineCells.{cell_of_byte, cells_in_one_row, line_length}
use Rattle.nv_notes.specs.Notes.{IsNoteOf}
use Rattle.nv_notes.specs.declared.note.At.{At}
use Rattle.nv_notes.specs.declared.note.At.TheVariants.{Eol, Overlay, RightAlign}
use Rattle.nv_notes.specs.declared.note.Chunk.{Chunk}
use Rattle.nv_screen.specs.declared.scene.Pane.{Pane}
use Rattle.nv_screen.specs.declared.scene.Patch.{Patch}
use Rattle.nv_screen.specs.Cursor.{bytes_at, rows_together}
use Rattle.nv_screen.specs.Drawing.{cells_up_to}
use Rattle.nv_virt.specs.declared.laying.VirtText.{VirtText}

-- ---- the cells of a text

-- the attribute of a group, and the empty one without a group
abbrev pub chunk_attr : List NamedGroup → Option ℕ → Attr
chunk_attr groups group = option_map_or (attr_of groups) group empty_attr

-- the cells of a part: its text in one row, with Tabs of 8 cells (own rule)
abbrev pub chunk_cells : List NamedGroup → Chunk → List Cell
chunk_cells groups c = cells_in_one_row 8 (chunk_attr groups c.group) c.text

-- and those of the parts, one behind another
abbrev pub chunks_cells : List NamedGroup → List Chunk → List Cell
chunks_cells groups [] = []
chunks_cells groups (c ∷ cs) = chunk_cells groups c ++ chunks_cells groups cs

-- a text as it is laid: the place of its mark, where it is to be, and its cells
pub record Text : Type 0 where
  pub row : ℕ
  pub byte : ℕ
  pub at : At
  pub cells : List Cell

abbrev pub laid_text : List NamedGroup → VirtText → Text
laid_text groups t = record {
  row = t.row;
  byte = t.byte;
  at = t.note.now.at;
  cells = chunks_cells groups t.note.now.chunks;
}

-- the groups of the parts of texts are there
abbrev pub AreOfGroups : List NamedGroup → List VirtText → Type 0
AreOfGroups groups texts = All (λ (t : VirtText). IsNoteOf groups t.note.now) texts

-- ---- where a text is

-- the row of the last of n cells, and the column behind it: in a row that is full the width
abbrev pub line_tail : ℕ → ℕ → ℕ × ℕ
line_tail width n =
    if (n % width == 0) && nat_lt 0 n then (n / width - 1, width) else (n / width, n % width)

abbrev pub tail_of_line : ℕ → ℕ → List ℕ → ℕ × ℕ
tail_of_line width tabstop line = line_tail width (line_length width tabstop line)

-- over the line: at the first cell of the piece that holds the mark's byte, and at the line's end
-- behind its last cell
abbrev pub overlay_place : ℕ → ℕ → List ℕ → ℕ → ℕ × ℕ
overlay_place width tabstop line byte =
    if nat_lt byte (length line)
    then (
      cell_of_byte width tabstop line byte / width,
      cell_of_byte width tabstop line byte % width,
    )
    else tail_of_line width tabstop line

-- at the line's end: a free column behind its last cell, or behind the text before
abbrev pub eol_place : ℕ × ℕ → Option ℕ → ℕ × ℕ
eol_place tail before = (tail.0, unwrap_or before tail.1 + 1)

-- the row of the line and the column at which a text of so many cells begins, where the text before
-- it at the line's end ends at this column
abbrev pub place_by : ℕ → ℕ → List ℕ → At → ℕ → Option ℕ → ℕ → ℕ × ℕ
place_by width tabstop line Eol byte before count =
    eol_place (tail_of_line width tabstop line) before
place_by width tabstop line Overlay byte before count = overlay_place width tabstop line byte
place_by width tabstop line RightAlign byte before count = (0, width - count)

-- the column behind the texts at a line's end, after one more
abbrev pub end_by : At → Option ℕ → ℕ → Option ℕ
end_by Eol before col = Some col
end_by Overlay before col = before
end_by RightAlign before col = before

-- ---- what a window shows of a text

-- cells on the screen, from a place on
pub record Strip : Type 0 where
  pub row : ℕ
  pub col : ℕ
  pub cells : List Cell

abbrev pub strip_of : Patch → Strip
strip_of p = record { row = p.row; col = p.col; cells = p.cells.items }

-- whether some of so many cells are in a window, from a row and a column of a line on that begins
-- at a row of it
abbrev pub is_inside : Pane → ℕ → ℕ × ℕ → ℕ → Bool
is_inside p above place count =
    nat_lt (above + place.0) p.rect.height && nat_lt place.1 p.rect.width && nat_lt 0 count

-- cells from a row and a column of a line on that begins at a row of the window, as far as they are
-- in it; a pair of which one half is not leaves a space (own rule)
abbrev pub strips_at : Pane → ℕ → ℕ × ℕ → List Cell → List Strip
strips_at p above place cells =
    if is_inside p above place (length cells)
    then (record {
      row = p.rect.row + (above + place.0);
      col = p.rect.col + place.1;
      cells = cells_up_to (p.rect.width - place.1) cells;
    }) ∷ []
    else []

-- the rows of the lines in front of one
abbrev pub line_above : Pane → ℕ → ℕ
line_above p n = rows_together p.rect.width p.tabstop (take n p.lines.items)

-- which of the lines of a window a row of its text is
abbrev pub is_shown : Pane → ℕ → Bool
is_shown p row = nat_le p.top row && nat_lt (row - p.top) (length p.lines.items)

abbrev pub line_on : Pane → ℕ → Option ℕ
line_on p row = if is_shown p row then Some (row - p.top) else None

-- where a text is that is on a line
abbrev pub text_place : Pane → List (Option ℕ) → ℕ → Text → ℕ × ℕ
text_place p ends n t =
    place_by p.rect.width p.tabstop (bytes_at p.lines.items n) t.at t.byte
    (slice_index_or ends n None)
    (length t.cells)

-- the columns behind the texts at the ends of lines, after one more
abbrev pub ends_after : Pane → List (Option ℕ) → ℕ → Text → List (Option ℕ)
ends_after p ends n t =
    slice_set ends n
    (end_by t.at (slice_index_or ends n None) ((text_place p ends n t).1 + length t.cells))

-- what a window shows of texts one after another; one that is on none of its lines isn't shown
abbrev pub strips_on : Pane → List (Option ℕ) → Option ℕ → Text
    → (List (Option ℕ) → List Strip) → List Strip
strips_on p ends None t more = more ends
strips_on p ends (Some n) t more =
    strips_at p (line_above p n) (text_place p ends n t) t.cells ++ more (ends_after p ends n t)

abbrev pub strips_from : Pane → List (Option ℕ) → List Text → List Strip
strips_from p ends [] = []
strips_from p ends (t ∷ ts) =
    strips_on p ends (line_on p t.row) t (λ later. strips_from p later ts)

abbrev pub texts_strips : Pane → List Text → List Strip
texts_strips p ts = strips_from p (replicate (length p.lines.items) None) ts
