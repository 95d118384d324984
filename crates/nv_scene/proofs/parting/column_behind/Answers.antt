use Rattle.std.proofs.Common.{pos, ◌+◌, ap, arith}
use Rattle.nv_layout.specs.declared.nodes.Rect.{Rect}
use Rattle.nv_scene.specs.Separators.{no_cells}
use Rattle.nv_scene.proofs.Parted.{back_is, column_is, front_is}
use Rattle.nv_scene.proofs.parting.column_behind.Goals as goal

pub overflow_add-result : goal.overflow_add-result
overflow_add-result c =
    omega (arith, ap (λ (r : Rect). r.col + r.width) (back_is c.args.placed.now (record { window = pos 0; rect = no_cells }) c.requires.some), c.requires.right)

pub overflow_add-result-2 : goal.overflow_add-result-2
overflow_add-result-2 c =
    omega (arith, ap (λ (r : Rect). r.row + r.height) (back_is c.args.placed.now (record { window = pos 0; rect = no_cells }) c.requires.some), c.requires.bottom)

pub overflow_sub-result : goal.overflow_sub-result
overflow_sub-result c =
    omega (
      arith,
      ap (λ (r : Rect). r.row + r.height) (back_is c.args.placed.now (record { window = pos 0; rect = no_cells }) c.requires.some),
      ap (λ (r : Rect). r.row) (front_is c.args.placed.now (record { window = pos 0; rect = no_cells }) c.requires.some),
      c.requires.top,
    )

pub returns : goal.returns
returns c =
    column_is c.args.placed.now _ _ c.requires (front_is c.args.placed.now (record { window = pos 0; rect = no_cells }) c.requires.some)
    (back_is c.args.placed.now (record { window = pos 0; rect = no_cells }) c.requires.some)
