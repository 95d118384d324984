use Rattle.std.proofs.Common.{◌≡◌, ◌+◌, ◌-◌, ◌∷◌, [], replicate}
use Rattle.nv_hl.specs.Cells.{cell_of}
use Rattle.nv_screen.specs.Drawing.{with_rows, with_separator}
use Rattle.nv_screen.proofs.drawing.lay_separator.Given as goal

abbrev pub invariant-loop-k : goal.invariant-loop-k
invariant-loop-k l =
    record l.canvas { rows = with_rows l.canvas.rows (l.rect.row + l.k) l.rect.col (replicate (l.rect.height - l.k) (cell_of (0xE2 ∷ 0x94 ∷ 0x82 ∷ []) l.bars.separator ∷ [])) }
    ≡ record l.fn.canvas { rows = with_separator l.bars l.fn.canvas.rows l.rect }
