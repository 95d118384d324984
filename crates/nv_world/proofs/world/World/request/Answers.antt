use Rattle.std.proofs.Common.{refl, ◌∙◌, arith}
use Rattle.nv_rpc.specs.Frames.{call_of_frame}
use Rattle.nv_history.specs.Events.{request_of}
use Rattle.nv_core.specs.Outcomes.{stop_of_unasked}
use Rattle.nv_core.specs.declared.entry.Event.TheVariants as event
use Rattle.nv_core.specs.declared.effect.Effect.TheVariants as effect
use Rattle.nv_world.proofs.Holding.{at_world, entered, few_told, live_fits, now_at, refused, want_of}
use Rattle.nv_world.proofs.world.World.request.Goals as goal

pub request-requires-clause-world : goal.request-requires-clause-world
request-requires-clause-world c =
    let now = now_at c.self.inside.capacity c.self.inside.limits c.self.inside.history.entries c.self.inside.history.room c.self.inside.machine.state c.self.inside.machine.last.items c.self.inside.machine.spent c.numbers_of-numbers.result c.self.invariant.holds (c.has_room.ensures.live c.if-not-has_room.false).0 c.numbers_of-numbers.ensures.numbers c.numbers_of-numbers.ensures.few in
    (now.w, now.at)

pub push_reserved-requires-clause-few : goal.push_reserved-requires-clause-few
push_reserved-requires-clause-few c =
    few_told c.has_room.new.history.base c.self.inside.capacity c.self.inside.limits c.self.inside.history.entries c.has_room.new.history.entries c.numbers_of-numbers.result (c.has_room.ensures.base ∙ c.self.invariant.base) c.has_room.ensures.entries c.numbers_of-numbers.ensures.numbers c.numbers_of-numbers.ensures.few

pub invariant_of-self-in-Ok : goal.invariant_of-self-in-Ok
invariant_of-self-in-Ok c =
    let live = c.has_room.ensures.live c.if-not-has_room.false in
    record {
      base = c.push_reserved.ensures.base ∙ c.has_room.ensures.base ∙ c.self.invariant.base;
      holds = (entered c.self.inside.capacity c.self.inside.limits c.self.inside.history.entries c.has_room.new.history.entries c.push_reserved.new.self.entries
          c.self.inside.history.room c.push_reserved.new.self.room c.self.inside.machine.state c.request.new.self.state c.self.inside.machine.last.items c.request.new.self.last.items c.self.inside.machine.spent c.request.new.self.spent c.numbers_of-numbers.result
          c.args.self.now (record { caller = c.args.caller; event = (event.Request c.args.session c.args.frame) }) effect.Done c.self.invariant.holds c.self.view_is live.0 c.in-Ok.ensures.steps.spent c.numbers_of-numbers.ensures.numbers c.numbers_of-numbers.ensures.few c.has_room.ensures.entries c.push_reserved.ensures.entries
          (λ editor. refl)
          (λ w at. c.in-Ok.ensures.steps.steps w at)
          (λ w v f at few is. live_fits c.self.inside.machine.state c.numbers_of-numbers.result w v (request_of c.args.session (call_of_frame c.args.frame)) f c.push_reserved.new.self.room at is
          (omega (arith, c.has_room.ensures.room c.if-not-has_room.false, c.push_reserved.ensures.room, c.self.inside.machine.state.sessions.ok.0)))
          (λ w at. c.in-Ok.ensures.steps.made refl w at)).holds;
    }

pub returns-in-Ok-clause-ok : goal.returns-in-Ok-clause-ok
returns-in-Ok-clause-ok c =
    let live = c.has_room.ensures.live c.if-not-has_room.false in
    (entered c.self.inside.capacity c.self.inside.limits c.self.inside.history.entries c.has_room.new.history.entries c.push_reserved.new.self.entries
    c.self.inside.history.room c.push_reserved.new.self.room c.self.inside.machine.state c.request.new.self.state c.self.inside.machine.last.items c.request.new.self.last.items c.self.inside.machine.spent c.request.new.self.spent c.numbers_of-numbers.result
    c.args.self.now (record { caller = c.args.caller; event = (event.Request c.args.session c.args.frame) }) effect.Done c.self.invariant.holds c.self.view_is live.0 c.in-Ok.ensures.steps.spent c.numbers_of-numbers.ensures.numbers c.numbers_of-numbers.ensures.few c.has_room.ensures.entries c.push_reserved.ensures.entries
    (λ editor. refl)
    (λ w at. c.in-Ok.ensures.steps.steps w at)
    (λ w v f at few is. live_fits c.self.inside.machine.state c.numbers_of-numbers.result w v (request_of c.args.session (call_of_frame c.args.frame)) f c.push_reserved.new.self.room at is
    (omega (arith, c.has_room.ensures.room c.if-not-has_room.false, c.push_reserved.ensures.room, c.self.inside.machine.state.sessions.ok.0)))
    (λ w at. c.in-Ok.ensures.steps.made refl w at)).applies

pub invariant_of-self-in-Err : goal.invariant_of-self-in-Err
invariant_of-self-in-Err c =
    let live = c.has_room.ensures.live c.if-not-has_room.false in
    record {
      base = c.has_room.ensures.base ∙ c.self.invariant.base;
      holds = (refused c.self.inside.capacity c.self.inside.limits c.self.inside.history.entries c.has_room.new.history.entries c.self.inside.history.room c.has_room.new.history.room c.self.inside.machine.state c.request.new.self.state c.self.inside.machine.last.items c.request.new.self.last.items c.self.inside.machine.spent c.request.new.self.spent c.numbers_of-numbers.result
          c.args.self.now (request_of c.args.session (call_of_frame c.args.frame)) (stop_of_unasked c.args.session c.in-Err.why) c.self.invariant.holds c.self.view_is live.0 c.numbers_of-numbers.ensures.numbers c.numbers_of-numbers.ensures.few c.has_room.ensures.entries c.has_room.ensures.kept
          (c.in-Err.ensures.steps.spent ∙ want_of (stop_of_unasked c.args.session c.in-Err.why)) (λ w at. c.in-Err.ensures.steps.steps w at) (c.in-Err.ensures.steps.kept refl)).holds;
    }

pub returns-in-Err-clause-err : goal.returns-in-Err-clause-err
returns-in-Err-clause-err c =
    let live = c.has_room.ensures.live c.if-not-has_room.false in (
      refl,
      (refused c.self.inside.capacity c.self.inside.limits c.self.inside.history.entries c.has_room.new.history.entries c.self.inside.history.room c.has_room.new.history.room c.self.inside.machine.state c.request.new.self.state c.self.inside.machine.last.items c.request.new.self.last.items c.self.inside.machine.spent c.request.new.self.spent c.numbers_of-numbers.result
          c.args.self.now (request_of c.args.session (call_of_frame c.args.frame)) (stop_of_unasked c.args.session c.in-Err.why) c.self.invariant.holds c.self.view_is live.0 c.numbers_of-numbers.ensures.numbers c.numbers_of-numbers.ensures.few c.has_room.ensures.entries c.has_room.ensures.kept
          (c.in-Err.ensures.steps.spent ∙ want_of (stop_of_unasked c.args.session c.in-Err.why)) (λ w at. c.in-Err.ensures.steps.steps w at) (c.in-Err.ensures.steps.kept refl)).applies,
    )

pub returns-in-Err-clause-gone : goal.returns-in-Err-clause-gone
returns-in-Err-clause-gone c = λ w runs.
    let live = c.has_room.ensures.live c.if-not-has_room.false in
    c.in-Err.ensures.gone w
    (at_world c.self.inside.capacity c.self.inside.limits c.self.inside.history.entries c.self.inside.history.room c.self.inside.machine.state c.self.inside.machine.last.items c.self.inside.machine.spent c.numbers_of-numbers.result c.args.self.now w c.self.invariant.holds c.self.view_is live.0 c.numbers_of-numbers.ensures.numbers c.numbers_of-numbers.ensures.few runs)
