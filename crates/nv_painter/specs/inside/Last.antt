-- inside: the scene that was painted last, and what a later one keeps of it.
use Rattle.std.specs.Prelude.{◌≡◌, ◌<◌, ◌^◌, ℕ, Bool, true, List, All, length, Option, Some, None}
use Rattle.nv_hl.specs.declared.cell.Cell.{Cell}
use Rattle.nv_linegrid.specs.Batch.{is_size, told_after}
use Rattle.nv_linegrid.specs.Scrolls.{Shift, rows_after_shifts, shifts_between}
use Rattle.nv_linegrid.specs.Told.{Told}
use Rattle.nv_screen.specs.declared.scene.Scene.{Scene}
use Rattle.nv_screen.specs.Drawing.{drawn_rows}
use Rattle.nv_screen.specs.Sound.{IsSoundScene}
use Rattle.nv_painter.specs.Pictures.{picture_of, views_of}
use Rattle.nv_painter.specs.inside.Due.{AreKnown}
use Rattle.nv_painter.specs.inside.Sketch.{IsSketch}

-- inside: this sound scene was told, and nothing since
pub record IsToldOf (t : Told) (s : Scene) : Type 0 where
  pub sound : IsSoundScene s
  pub same : t ≡ told_after t (picture_of s)

-- inside: the same, where a scene was told
abbrev pub IsToldOfLast : Told → Option Scene → Type 0
IsToldOfLast t None = Unit {0}
IsToldOfLast t (Some s) = IsToldOf t s

-- inside: a scene of the size that was told, how windows' texts moved, and its rows, which are
-- drawn or shown once they did
pub record IsSketchOf (t : Told) (shifts : List Shift) (flags : List Bool)
    (known : List (Option (ℕ × ℕ)))
    (drawn : List (List Cell))
    (s : Scene)
    : Type 0 where
  pub size : is_size t.size s.width s.height ≡ true
  pub moves : shifts ≡ shifts_between t.views (views_of s.panes.items)
  pub sketch : IsSketch flags drawn t.attrs (rows_after_shifts shifts t.rows) (drawn_rows s)
  pub places : AreKnown known t.attrs drawn (rows_after_shifts shifts t.rows)
  pub short : All (λ row. length row < 2 ^ 32) drawn
