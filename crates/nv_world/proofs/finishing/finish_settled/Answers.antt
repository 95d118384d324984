use Rattle.std.proofs.Common.{◌≡◌, sym, ◌∙◌, subst}
use Rattle.nv_model.specs.Standing.{PresentEditor, seen_now}
use Rattle.nv_scene.specs.Settling.{IsSettled}
use Rattle.nv_world.proofs.Standings.{finished_settled}
use Rattle.nv_world.proofs.Steppings.{on_ok_both}
use Rattle.nv_world.proofs.finishing.finish_settled.Goals as goal

still : (before after : PresentEditor) → after ≡ before → IsSettled (seen_now before) → IsSettled (seen_now after)
still before after same settled = subst (λ (e : PresentEditor). IsSettled (seen_now e)) (sym same) settled

pub returns-clause-world : goal.returns-clause-world
returns-clause-world c =
    on_ok_both c.settle_if.result _ _ _ c.settle_if.ensures.stands c.settle_if.ensures.settled (λ p q w stands are few settled.
    finished_settled c.args.state.now c.end_if.new.state c.drop_uis_of_closed.new.state c.settle_if.new.editor c.args.numbers w c.args.is_seen stands are few
    c.end_if.ensures.world c.in_ok-any.ensures.world
    (λ m h. p m h (λ unseen none. still c.args.state.now.editor c.drop_uis_of_closed.new.state.editor (c.in_ok-any.ensures.editor none ∙ c.end_if.ensures.editor) (settled unseen)))
    (λ m h. q m h (λ unseen none. still c.args.state.now.editor c.drop_uis_of_closed.new.state.editor (c.in_ok-any.ensures.editor none ∙ c.end_if.ensures.editor) (settled unseen))))
