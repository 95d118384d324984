use Rattle.std.proofs.Common.{◌≡◌, List, length, ap, ◌∙◌, arith}
use Rattle.nv_windows.specs.Workspace.{Workspace}
use Rattle.nv_windows.specs.declared.window.Window.{Window}
use Rattle.nv_scene.proofs.SettleSteps.{settle_end, settle_step}
use Rattle.nv_scene.proofs.settling.settle.Goals as goal

pub loop-place-preserved : goal.loop-place-preserved
loop-place-preserved c =
    let all : c.windows-count.result.now ≡ c.args.editor.now.stage.workspace.windows = c.windows-count.ensures.windows ∙ ap (λ (v : Workspace). v.windows) c.windows.ensures in
    settle_step c.args.editor.now c.loop-place.editor c.settle_at.new.editor c.loop-place.place c.known.ensures.workspace
    (omega (arith, c.loop-place-test.true, c.loop-place.auto.place-end, ap (λ (vs : List Window). length vs) all)) c.loop-place.invariant c.in_ok-settle_at.ensures

pub returns : goal.returns
returns c =
    let all : c.windows-count.result.now ≡ c.args.editor.now.stage.workspace.windows = c.windows-count.ensures.windows ∙ ap (λ (v : Workspace). v.windows) c.windows.ensures in
    settle_end c.args.editor.now c.loop-place.editor c.loop-place.place
    (omega (arith, c.loop-place-test.false, c.loop-place.auto.place-end, ap (λ (vs : List Window). length vs) all)) c.loop-place.invariant
