use Rattle.std.proofs.Common.{w64, arith}
use mir.Val.{to_z, of_z}
use Rattle.nv_windows.specs.Operations.{window_instead}
use Rattle.nv_windows.proofs.Mapped.{one_more}
use Rattle.nv_windows.proofs.slots.show_instead.Goals as goal

pub loop-window-preserved : goal.loop-window-preserved
loop-window-preserved c =
    one_more (window_instead (to_z w64 (of_z w64 c.args.old)) (to_z w64 (of_z w64 c.args.new))) c.args.windows.now c.loop-window.windows c.loop-window.window-index _ c.window_instead.result
    (omega arith) (omega arith) c.loop-window.invariant c.window_instead.ensures
