use Rattle.std.proofs.Common.{sym, subst₂, [], ◌∷◌}
use Rattle.atomic_table.specs.Table.{opening}
use Rattle.nv_turn.specs.inside.Rule.{KeepsRule}
use Rattle.nv_turn.specs.inside.Steps.{opening_view}
use Rattle.nv_turn.proofs.Closing.{opens}
use Rattle.nv_turn.proofs.turn.Turn.make.Goals as goal

pub new-requires : goal.new-requires
new-requires g c =
    let t = g.T.Story in
    subst₂ (λ y slots. KeepsRule t.caller t.stands t.start (t.start y) c.from.result (opening (0 ∷ 0 ∷ 1 ∷ []) slots (opening_view (t.start y)))) (sym c.of.ensures) (sym c.in_ok-slots.ensures.ok) (opens t.caller t.stands t.start c.args.value c.from.result c.requires.empty)
