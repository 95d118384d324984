use Rattle.std.proofs.Common.{◌+◌, ◌++◌, ◌∙◌, List, ap}
use Rattle.nv_layout.specs.declared.nodes.Rect.{Rect}
use Rattle.nv_scene.proofs.Parted.{between_followed}
use Rattle.nv_scene.proofs.parting.push_separator.Goals as goal

pub returns-in_ok-push-in-Across : goal.returns-in_ok-push-in-Across
returns-in_ok-push-in-Across c =
    c.in_ok-push-in-Across.ensures.items
    ∙ ap (λ (rs : List Rect). c.args.into.now.items ++ rs)
    (between_followed c.args.axis c.args.trees.now (c.args.place + 1) c.args.here.now c.column_behind.result c.in-Across.is c.if-place-trees.true c.column_behind.ensures)
