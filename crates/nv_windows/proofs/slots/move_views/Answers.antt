use Rattle.std.proofs.Common.{sym, subst, w64, arith, get_or}
use Rattle.std.specs.Prelude.{pos}
use Rattle.std.proofs.lemmas.Int.{to_z-of_z}
use Rattle.std.proofs.lemmas.List.Elements.{All-get_or}
use mir.Val.{to_z, of_z}
use Rattle.nv_windows.specs.Workspace.{window_on}
use Rattle.nv_windows.specs.Views.{MovesNarrowlyIn, view_showing}
use Rattle.nv_windows.proofs.Mapped.{next_one, one_more}
use Rattle.nv_windows.proofs.slots.move_views.Goals as goal

pub view_showing-requires-clause-moved : goal.view_showing-requires-clause-moved
view_showing-requires-clause-moved c =
    subst (λ n. MovesNarrowlyIn n (record { start = c.args.start; old = c.args.old; new = c.args.new; count = c.args.count }) (get_or c.loop-window.windows c.loop-window.window-index (window_on (pos 0) (pos 0))))
    (sym (to_z-of_z w64 c.args.buffer c.ranges.buffer))
    (subst (MovesNarrowlyIn c.args.buffer (record { start = c.args.start; old = c.args.old; new = c.args.new; count = c.args.count }))
    (sym (next_one (view_showing (to_z w64 (of_z w64 c.args.buffer)) (record { start = c.args.start; old = c.args.old; new = c.args.new; count = c.args.count })) c.args.windows.now c.loop-window.windows c.loop-window.window-index
    (window_on (pos 0) (pos 0)) (omega arith) c.loop-window.invariant))
    (All-get_or (MovesNarrowlyIn c.args.buffer (record { start = c.args.start; old = c.args.old; new = c.args.new; count = c.args.count })) c.args.windows.now c.loop-window.window-index (window_on (pos 0) (pos 0)) (omega arith) c.requires.moved))

pub loop-window-preserved : goal.loop-window-preserved
loop-window-preserved c =
    one_more (view_showing (to_z w64 (of_z w64 c.args.buffer)) (record { start = c.args.start; old = c.args.old; new = c.args.new; count = c.args.count })) c.args.windows.now c.loop-window.windows c.loop-window.window-index _ c.view_showing.result
    (omega arith) (omega arith) c.loop-window.invariant c.view_showing.ensures
