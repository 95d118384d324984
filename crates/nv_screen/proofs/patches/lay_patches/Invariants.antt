use Rattle.std.proofs.Common.{◌≡◌, drop}
use Rattle.nv_screen.specs.Drawing.{with_patches}
use Rattle.nv_screen.proofs.patches.lay_patches.Given as goal

abbrev pub invariant-loop-patch : goal.invariant-loop-patch
invariant-loop-patch l =
    record l.canvas { rows = with_patches l.canvas.rows (drop l.patch-index l.patches) }
    ≡ record l.fn.canvas { rows = with_patches l.fn.canvas.rows l.patches }
