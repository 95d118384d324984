-- Bounds under which a splice moves marks: no sum of rows or columns passes 32 bits.
use Rattle.std.specs.Prelude.{ℕ, ◌<◌, IfSome}
use Rattle.nv_places.specs.declared.place.Pos.{Pos}
use Rattle.nv_places.specs.declared.place.Extent.{Extent}
use Rattle.nv_marks.specs.declared.extmark.Mark.{Mark}

-- row and column are below the bound
abbrev pub IsPosBelow : ℕ → Pos → Type 0
IsPosBelow bound p = (p.row < bound) × (p.col < bound)

-- so are the start of the mark and its end
abbrev pub IsBelow : ℕ → Mark → Type 0
IsBelow bound m = IsPosBelow bound m.start × IfSome m.stop (λ far. IsPosBelow bound far.pos)

-- what is replaced and what is put are below the bound
pub record IsSpliceBelow (bound : ℕ) (start : Pos) (old new : Extent) : Type 0 where
  pub start_row : start.row < bound
  pub start_col : start.col < bound
  pub old_rows : old.rows < bound
  pub old_cols : old.cols < bound
  pub new_rows : new.rows < bound
  pub new_cols : new.cols < bound
