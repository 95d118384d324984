use Rattle.std.proofs.Common.{◌≡◌, false, sym, ◌∙◌}
use Rattle.nv_watch.proofs.GridSteps.{world_settled, world_shown}
use Rattle.nv_watch.proofs.grid_fold.is_shown.Goals as goal

pub scene_of-requires : goal.scene_of-requires
scene_of-requires c =
    let fresh : c.args.world.now.spent ≡ false = sym c.spent.ensures ∙ c.if-spent.false in
    record { settled = world_settled c.settling_law.ensures.settled c.args.world.now c.editor.result.now c.history-history.ensures.runs c.editor.ensures fresh }

pub returns : goal.returns
returns c =
    let fresh : c.args.world.now.spent ≡ false = sym c.spent.ensures ∙ c.if-spent.false in
    world_shown c.bytes_law.ensures.pictures c.args.world.now c.editor.result.now c.in_ok-scene.scene c.args.client.now c.in_ok-shown.shown
    c.history-history.ensures.runs c.editor.ensures fresh c.in_ok-scene.ensures.scene c.in_ok-scene.ensures.sound c.in_ok-shown.ensures
