-- What every set of marks keeps.
use Rattle.std.specs.Prelude.{ℕ, ◌≤◌, ◌==◌, Bool, ◌&&◌, List, All, IsSorted}
use Rattle.std.specs.List.{IsDistinct}
use Rattle.nv_marks.specs.Marks.{greatest_id}
use Rattle.nv_marks.specs.Order.{mark_order}
use Rattle.nv_marks.specs.declared.extmark.Mark.{Mark}

-- two marks have one namespace and id
abbrev pub same_name : Mark → Mark → Bool
same_name m k = m.ns == k.ns && m.id == k.id

-- the marks are in order, no two of one namespace and id, and none above the greatest id of its
-- namespace
pub record IsSound (marks : List Mark) (greatest : List (ℕ × ℕ)) : Type 0 where
  pub in_order : IsSorted mark_order marks
  pub distinct : IsDistinct same_name marks
  pub counted : All (λ m. m.id ≤ greatest_id greatest m.ns) marks
