-- Marks in a text, and what an edit does to them (help: api-extended-marks).
use Rattle.std.specs.Prelude.{◌≡◌, ℕ, ◌==◌, if◌then◌else◌, List, [], ◌∷◌, map, max, All, IfSome, Option}
use Rattle.std.specs.Ordering.{is_lt}
use Rattle.nv_places.specs.Places.{IsPlaceIn}
use Rattle.nv_places.specs.declared.place.Pos.{Pos}
use Rattle.nv_marks.specs.declared.extmark.Mark.{Mark}
use Rattle.nv_marks.specs.declared.keeping.Kept.{Kept}
use Rattle.nv_marks.specs.Keeping.{marks_struck, put_back_mark}
use Rattle.nv_marks.specs.Marks.{Marks, greatest_id, next_setting, numbered_mark, without}
use Rattle.nv_marks.specs.Moves.{moved_mark}
use Rattle.nv_marks.specs.Order.{mark_order, IsInOrder}
use Rattle.nv_marks.specs.Queries.{cleared_marks}
use Rattle.nv_buffer.specs.declared.edit.Edit.{Edit}

-- start and end of a mark are places of a text (help: nvim_buf_set_extmark())
pub record IsMarkIn (text : List (List ℕ)) (mark : Mark) : Type 0 where
  pub start : IsPlaceIn text mark.start
  pub stop : IfSome mark.stop (λ far. IsPlaceIn text far.pos)

-- so are those of all marks
abbrev pub AreMarksIn : List (List ℕ) → Marks → Type 0
AreMarksIn text marks = All (IsMarkIn text) marks.marks

-- a mark put among marks in order
abbrev pub with_in_order : Mark → List Mark → List Mark
with_in_order k [] = k ∷ []
with_in_order k (m ∷ ms) =
    if is_lt (mark_order m k) then m ∷ with_in_order k ms else k ∷ m ∷ ms

-- marks in order
abbrev pub marks_in_order : List Mark → List Mark
marks_in_order [] = []
marks_in_order (m ∷ ms) = with_in_order m (marks_in_order ms)

-- a mark once an edit is made: start and end are moved each by itself, and then what was kept of it
-- is put back
abbrev pub mark_after : List Kept → Edit → Mark → Mark
mark_after kept edit m =
    put_back_mark kept (moved_mark edit.start edit.removed edit.put m)

-- the marks once an edit is made: first those are struck of which it removes all
abbrev pub marks_after : List Kept → Marks → Edit → Marks
marks_after kept marks edit = record marks {
  marks =
      marks_in_order
      (map (mark_after kept edit) (marks_struck edit.start edit.removed marks.marks));
}

-- the marks once a mark is set anew as a whole, under the next number
pub record IsMarked (before after : Marks) (mark : Mark) : Type 0 where
  pub marks : IsInOrder
      (numbered_mark before.settings mark ∷ without mark.ns mark.id before.marks) after.marks
  pub greatest :
      (ns : ℕ)
      → greatest_id after.greatest ns
      ≡ (if ns == mark.ns then max (greatest_id before.greatest ns) mark.id
      else greatest_id before.greatest ns)
  pub settings : after.settings ≡ next_setting before.settings

-- and once the mark of a namespace and id is removed, which still counts for the next id
pub record IsUnmarked (before after : Marks) (ns id : ℕ) : Type 0 where
  pub marks : after.marks ≡ without ns id before.marks
  pub greatest : after.greatest ≡ before.greatest
  pub settings : after.settings ≡ before.settings

-- and once the marks of a namespace, or of all, are removed that start from one place to another
abbrev pub marks_cleared : Option ℕ → Pos → Pos → Marks → Marks
marks_cleared ns from to marks = record marks {
  marks = cleared_marks ns from to marks.marks;
}
