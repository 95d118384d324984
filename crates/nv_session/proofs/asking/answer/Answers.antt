use Rattle.std.proofs.Common.{List, ◌∙◌, map, sym, subst}
use Rattle.std.specs.Prelude.{option_map}
use Rattle.std.proofs.lemmas.Result.{err_from_is_err_and}
use Rattle.nv_rpc.specs.Frames.{call_of_frame}
use Rattle.nv_history.specs.Events.{Entry, take_of}
use Rattle.nv_history.specs.Worlds.{step}
use Rattle.nv_core.specs.Contents.{sent_of_shared}
use Rattle.nv_core.specs.declared.start.Start.{Start}
use Rattle.nv_world.specs.Worlds.{start_of}
use Rattle.nv_session.specs.Sending.{world_after}
use Rattle.nv_session.specs.inside.Alone.{IsCalled, IsUnanswered}
use Rattle.nv_session.specs.inside.Worlds.{entries_in, TakesDue}
use Rattle.nv_session.proofs.Lone.{requested, unmade, untaken, answered}
use Rattle.nv_session.proofs.Steps.{if_ok, on_err}
use Rattle.nv_session.proofs.asking.answer.Goals as goal

pub returns-in_err-ask-clause-err : goal.returns-in_err-ask-clause-err
returns-in_err-ask-clause-err c =
    let p = err_from_is_err_and c.from_residual.result c.from_residual.ensures.1 in
    let start = start_of c.args.world.now in
    let h = entries_in c.args.world.now in
    let call = call_of_frame c.args.frame in
    rw p.1 (subst (λ (l : List Entry). IsUnanswered start call h l) (sym c.in_err-ask.ensures.err) (unmade start h call c.requires.alone))

pub take-requires : goal.take-requires
take-requires c =
    let start = start_of c.args.world.now in
    let k = entries_in c.ask.new.world in
    record {
      called = subst (λ (d : Start). IsCalled d k) (sym c.in_ok-ask.ensures.begins)
          (subst (IsCalled start) (sym c.in_ok-ask.ensures.entries) (requested start (entries_in c.args.world.now) (call_of_frame c.args.frame) c.requires.alone));
    }

pub returns-clause-answers : goal.returns-clause-answers
returns-clause-answers c =
    let start = start_of c.args.world.now in
    let h = entries_in c.args.world.now in
    let m = entries_in c.ask.new.world in
    let k = entries_in c.take.new.world in
    let call = call_of_frame c.args.frame in
    if_ok c.take.result _ _
    (λ batch t.
    answered start h k call (map sent_of_shared batch.messages.items) batch.scene c.requires.alone
    (subst
    (λ (l : List Entry). TakesDue (map sent_of_shared batch.messages.items) batch.scene l k (option_map (λ w. step w (take_of 1)) (world_after start l)))
    c.in_ok-ask.ensures.entries
    (subst
    (λ (d : Start). TakesDue (map sent_of_shared batch.messages.items) batch.scene m k (option_map (λ w. step w (take_of 1)) (world_after d m)))
    c.in_ok-ask.ensures.begins t)))
    c.take.ensures.takes

pub returns-clause-err : goal.returns-clause-err
returns-clause-err c =
    let start = start_of c.args.world.now in
    let h = entries_in c.args.world.now in
    let call = call_of_frame c.args.frame in
    on_err c.take.result _ _
    (λ e. subst (λ (l : List Entry). IsUnanswered start call h l) (sym (e ∙ c.in_ok-ask.ensures.entries)) (untaken start h call c.requires.alone))
    c.take.ensures.err
