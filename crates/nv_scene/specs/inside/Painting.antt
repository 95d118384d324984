-- inside: the marks that may show on some rows. Only private contracts cite this.
use Rattle.std.specs.Prelude.{ℕ, ◌<◌, ◌≤◌, ◌&&◌, Bool, false, true, not, nat_le, nat_lt, if◌then◌else◌, List, [], ◌∷◌, filter, Option, None, Some, IsPermutation, IsSorted}
use Rattle.nv_marks.specs.Queries.{is_selected}
use Rattle.nv_marks.specs.declared.query.Query.{Query}
use Rattle.nv_marks.specs.declared.extmark.Far.{Far}
use Rattle.nv_marks.specs.declared.extmark.Mark.{Mark}
use Rattle.nv_marks.specs.declared.extmark.Paint.{Paint}
use Rattle.nv_hl.specs.Groups.{NamedGroup}
use Rattle.nv_linedraw.specs.declared.looks.Span.{Span}
use Rattle.nv_windows.specs.Views.{row_begin}
use Rattle.nv_scene.specs.Panes.{paint_order, shows_on, span_on}

-- a mark that isn't hidden has a range with a group that ends in a row or behind it
abbrev pub may_show_by : ℕ → Option Far → Option Paint → Bool
may_show_by first (Some far) (Some paint) = nat_le first far.pos.row
may_show_by first _ _ = false

abbrev pub may_show : ℕ → Mark → Bool
may_show first k = not k.hidden && may_show_by first k.stop k.paint

-- the query for the marks that reach the rows from one up to before another
abbrev pub reaching_rows : ℕ → ℕ → Query
reaching_rows first behind =
    record { ns = None; from = row_begin first; to = row_begin behind; reaching = true }

-- the marks that may show on those rows
abbrev pub showing_marks : ℕ → ℕ → List Mark → List Mark
showing_marks first behind marks =
    filter (may_show first) (filter (is_selected (reaching_rows first behind)) marks)

-- those in the order in which they are laid over one another
pub record AreLaid (first behind : ℕ) (marks laid : List Mark) : Type 0 where
  pub same_marks : IsPermutation (showing_marks first behind marks) laid
  pub rising : IsSorted paint_order laid

-- marks of which those that show on a row, of the rows from one up to before another, are all that
-- show on it, in the order in which they are laid over one another
pub record ShowOnRows (first behind : ℕ) (marks laid : List Mark) : Type 0 where
  pub same_marks :
      (row len : ℕ) → first ≤ row → row < behind
      → IsPermutation (filter (shows_on row len) marks) (filter (shows_on row len) laid)
  pub rising : IsSorted paint_order laid

-- whether a mark may show on the rows from one up to before another
abbrev pub may_show_on : ℕ → ℕ → Mark → Bool
may_show_on first behind k = nat_lt k.start.row behind && may_show first k

-- the mark, if it may
abbrev pub mark_if_on : ℕ → ℕ → Mark → List Mark
mark_if_on first behind k = if may_show_on first behind k then k ∷ [] else []

-- what one mark shows on a row
abbrev pub spans_of_mark : List NamedGroup → ℕ → ℕ → Mark → List Span
spans_of_mark groups row len k = if shows_on row len k then span_on groups row len k ∷ [] else []
