use Rattle.std.proofs.Common.{rules, ◌∙◌, ap, w64}
use Rattle.std.proofs.lemmas.Int.{to_z-of_z}
use mir.Val.{to_z, of_z}
use Rattle.nv_windows.specs.Workspace.{handles_of_windows, showing}
use Rattle.nv_windows.proofs.Mapped.{shown_more, shown_all}
use Rattle.nv_windows.proofs.slots.showing.Goals as goal

pub loop-window-preserved : goal.loop-window-preserved
loop-window-preserved c =
    shown_more (to_z w64 (of_z w64 c.args.buffer)) c.args.windows.now c.loop-window.window-index _ c.loop-window.handles.items c.push_showing.new.handles.items
    (handles_of_windows (showing (to_z w64 (of_z w64 c.args.buffer)) c.args.windows.now)) c.loop-window-test.true (search rules) c.in_ok-push_showing.ensures c.loop-window.invariant

pub returns : goal.returns
returns c =
    shown_all (to_z w64 (of_z w64 c.args.buffer)) c.args.windows.now c.loop-window.window-index c.loop-window.handles.items
    (handles_of_windows (showing (to_z w64 (of_z w64 c.args.buffer)) c.args.windows.now)) c.loop-window-test.false c.loop-window.invariant
    ∙ ap (λ n. handles_of_windows (showing n c.args.windows.now)) (to_z-of_z w64 c.args.buffer c.ranges.buffer)
