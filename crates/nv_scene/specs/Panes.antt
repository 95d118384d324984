-- What a window shows: the lines of its buffer with what marks show on them, and its status line.
use Rattle.std.specs.Prelude.{◌≡◌, ℕ, suc, ℤ, pos, ◌-◌, ◌==◌, ◌&&◌, Bool, false, not, nat_le, nat_lt, min, if◌then◌else◌, List, [], ◌∷◌, ◌++◌, length, map, filter, codes, Option, Some, IsPermutation, IsSorted}
use Rattle.std.specs.declared.cmp.Ordering.{Ordering}
use Rattle.std.specs.Ordering.{int_eq, ordering_then, nat_cmp}
use Rattle.nv_places.specs.Flat.{line_at}
use Rattle.nv_places.specs.declared.place.Pos.{Pos}
use Rattle.nv_marks.specs.declared.extmark.Far.{Far}
use Rattle.nv_marks.specs.declared.extmark.Mark.{Mark}
use Rattle.nv_marks.specs.declared.extmark.Paint.{Paint}
use Rattle.nv_layout.specs.declared.nodes.Rect.{Rect}
use Rattle.nv_windows.specs.Workspace.{current_window, window_at}
use Rattle.nv_windows.specs.declared.window.Window.{Window}
use Rattle.nv_hl.specs.Attributes.{empty_attr}
use Rattle.nv_hl.specs.Groups.{NamedGroup, attr_of}
use Rattle.nv_linedraw.specs.declared.looks.Span.{Span}
use Rattle.nv_screen.specs.declared.scene.Pane.{Pane}
use Rattle.nv_screen.specs.declared.scene.SceneLine.{SceneLine}
use Rattle.nv_model.specs.Seen.{Seen, SeenBuffer}

-- ---- the marks that a line shows

-- the first byte of a row from which a range is on that begins at a place, and the byte before
-- which it ends; the end of a line of so many bytes counts as one byte more, unless that has no
-- number of 32 bits
abbrev pub range_from : Pos → ℕ → ℕ
range_from start row = if nat_lt start.row row then 0 else start.col

abbrev pub range_to : Pos → ℕ → ℕ → ℕ
range_to stop row len = if nat_lt row stop.row then min (suc len) 4294967295 else stop.col

-- whether a range, its start included and its stop not, holds a byte of a row, or its end
abbrev pub holds_of_row : Pos → Pos → ℕ → ℕ → Bool
holds_of_row start stop row len =
    nat_le start.row row && nat_le row stop.row
    && nat_lt (range_from start row) (range_to stop row len)

-- the same for a mark with a group; one without an end, or without a group, and one that is hidden
-- shows nothing (help: nvim_buf_set_extmark(), hl_group, invalidate; own rule)
abbrev pub shows_by : Pos → ℕ → ℕ → Option Far → Option Paint → Bool
shows_by start row len (Some far) (Some paint) = holds_of_row start far.pos row len
shows_by start row len _ _ = false

abbrev pub shows_on : ℕ → ℕ → Mark → Bool
shows_on row len k = not k.hidden && shows_by k.start row len k.stop k.paint

-- the bytes of a row that a mark shows, with the attribute of its group
abbrev pub span_by : List NamedGroup → Pos → ℕ → ℕ → Option Far → Option Paint → Span
span_by groups start row len (Some far) (Some paint) = record {
  from = range_from start row;
  to = range_to far.pos row len;
  attr = attr_of groups paint.group;
  eol = paint.eol;
}
span_by groups start row len _ _ = record { from = 0; to = 0; attr = empty_attr; eol = false }

abbrev pub span_on : List NamedGroup → ℕ → ℕ → Mark → Span
span_on groups row len k = span_by groups k.start row len k.stop k.paint

-- marks by rising priority, then namespace, then id: later ones are laid over earlier ones (help:
-- nvim_buf_set_extmark(), priority; own rule for equal priorities)
abbrev pub paint_order : Mark → Mark → Ordering
paint_order m k =
    ordering_then (ordering_then
    (nat_cmp m.priority k.priority)
    (nat_cmp m.ns k.ns))
    (nat_cmp m.id k.id)

-- the spans of a row of so many bytes: those of the marks that show on it, in that order
pub record AreSpansOf (groups : List NamedGroup) (marks : List Mark) (row len : ℕ)
    (spans : List Span) : Type 0 where
  pub order : List Mark
  pub marks_are : IsPermutation (filter (shows_on row len) marks) order
  pub rising : IsSorted paint_order order
  pub spans_are : spans ≡ map (span_on groups row len) order

-- ---- windows

-- a line of a scene is a row of a buffer
pub record IsLineOf (groups : List NamedGroup) (b : SeenBuffer) (row : ℕ)
    (line : SceneLine) : Type 0 where
  pub row_is : line.row ≡ row
  pub bytes_are : line.bytes ≡ line_at b.lines row
  pub spans_are :
      AreSpansOf groups b.marks row (length (line_at b.lines row)) line.spans.items

-- lines are the rows of a buffer from one on
abbrev pub AreLinesOf : List NamedGroup → SeenBuffer → ℕ → List SceneLine → Type 0
AreLinesOf groups b row [] = Unit {0}
AreLinesOf groups b row (line ∷ lines) =
    IsLineOf groups b row line × AreLinesOf groups b (suc row) lines

-- the status line of a buffer: its name, and whether it is changed (help: 'statusline'; own rule)
abbrev pub status_line_of : SeenBuffer → List ℕ
status_line_of b =
    (if length b.name == 0 then codes "[No Name]" else b.name)
    ++ (if b.modified then codes " [+]" else [])

-- a pane shows a window over a buffer in these text cells
pub record IsPaneOf (s : Seen) (w : Window) (b : SeenBuffer) (rect : Rect)
    (p : Pane) : Type 0 where
  pub window : p.window ≡ w.handle
  pub buffer : p.buffer ≡ w.buffer
  pub tick : p.tick ≡ pos b.tick
  pub tabstop : p.tabstop ≡ b.tabstop
  pub rect_is : p.rect ≡ rect
  pub top : p.top ≡ w.top
  pub current : p.current ≡ int_eq (current_window s.stage.workspace) w.handle
  pub count : p.count ≡ length b.lines
  pub shown : length p.lines.items ≡ min rect.height (length b.lines - w.top)
  pub lines : AreLinesOf s.stage.groups b w.top p.lines.items
  pub status : p.status ≡ status_line_of b

-- a pane shows the window of a handle in these text cells
pub record IsPaneIn (s : Seen) (handle : ℤ) (rect : Rect) (p : Pane) : Type 0 where
  pub window : Window
  pub buffer : SeenBuffer
  pub window_is : window_at s.stage.workspace handle ≡ Some window
  pub buffer_is : s.buffer window.buffer ≡ Some buffer
  pub pane : IsPaneOf s window buffer rect p
