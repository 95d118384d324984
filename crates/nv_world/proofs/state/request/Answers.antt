use Rattle.std.proofs.Common.{ℕ, Bool, List, sym, ◌∙◌, subst, refl}
use Rattle.std.specs.List.{AllZip}
use Rattle.nv_rpc.specs.Calls.{Call}
use Rattle.nv_rpc.specs.Frames.{call_of_frame}
use Rattle.nv_dispatch.specs.Calls.{CallOutcome, editor_after}
use Rattle.nv_history.specs.Events.{done}
use Rattle.nv_history.specs.Worlds.{after_settled_entry, outcome_of_frame, world_after_call}
use Rattle.nv_core.specs.Outcomes.{stop_of_unasked}
use Rattle.nv_core.specs.declared.effect.Effect.TheVariants.{Done}
use Rattle.nv_world.specs.declared.session.Session.{Session as Kept}
use Rattle.nv_world.specs.inside.Sessions.{IsSession}
use Rattle.nv_world.specs.inside.States.{StandsNumbered, called_outcome, with_next}
use Rattle.nv_world.proofs.Standings.{settled_kept}
use Rattle.nv_world.proofs.Steppings.{ok_becomes, plain_is, stop_refuses}
use Rattle.nv_world.proofs.state.request.Goals as goal

pub returns-in-Some-clause-steps : goal.returns-in-Some-clause-steps
returns-in-Some-clause-steps c = λ w at.
    let call : Call = call_of_frame c.args.frame.now in
    stop_refuses c.args.state.now c.args.numbers (stop_of_unasked c.args.session c.in-Some.stop) (called_outcome w c.args.session call) _
    (c.in-Some.ensures.stop w call at.stands.numbers.capacity_is
    (subst (λ (n : ℕ). AllZip (IsSession n) c.deref.result.now w.sessions) at.stands.numbers.capacity_is
    (subst (λ (l : List Kept). AllZip (IsSession w.capacity) l w.sessions) (sym c.deref.ensures.value) at.stands.state.sessions.pairs)))

pub returns-in-Some-clause-gone : goal.returns-in-Some-clause-gone
returns-in-Some-clause-gone c = λ w at.
    c.in-Some.ensures.gone w
    (subst (λ (n : ℕ). AllZip (IsSession n) c.deref.result.now w.sessions) at.stands.numbers.capacity_is
    (subst (λ (l : List Kept). AllZip (IsSession w.capacity) l w.sessions) (sym c.deref.ensures.value) at.stands.state.sessions.pairs))

pub returns-clause-steps : goal.returns-clause-steps
returns-clause-steps c = λ w at.
    let call : Call = call_of_frame c.args.frame.now in
    let o : CallOutcome = outcome_of_frame w.editor c.args.session call in
    ok_becomes c.args.state.now c.finish_settled.new.state c.args.numbers Done (after_settled_entry o.is_seen (world_after_call w c.args.session call o)) _ done
    (c.in_default.ensures.stop w call at.stands.numbers.capacity_is
    (subst (λ (n : ℕ). AllZip (IsSession n) c.deref.result.now w.sessions) at.stands.numbers.capacity_is
    (subst (λ (l : List Kept). AllZip (IsSession w.capacity) l w.sessions) (sym c.deref.ensures.value) at.stands.state.sessions.pairs)))
    (plain_is Done refl)
    (subst (λ (b : Bool). StandsNumbered c.finish_settled.new.state (with_next c.args.numbers) (after_settled_entry b (world_after_call w c.args.session call o)))
    (c.in-Ok.ensures.seen w at.stands.state)
    (c.in-Ok-finish_settled.ensures.world (world_after_call w c.args.session call o) (c.in-Ok.ensures.stands w at.stands.state at.stands.numbers.entries_are)
    (record { capacity_is = at.stands.numbers.capacity_is; last_is = at.stands.numbers.last_is; entries_are = at.stands.numbers.entries_are; stamps = at.stands.numbers.stamps }) at.few
    (λ unseen. settled_kept c.make_call.new.state.editor (editor_after w.editor o) (c.in-Ok.ensures.stands w at.stands.state at.stands.numbers.entries_are).editor
    (at.calm c.args.session call (sym (c.in-Ok.ensures.seen w at.stands.state) ∙ unseen)))))
