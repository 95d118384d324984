use Rattle.std.proofs.Common.{refl, ◌∙◌, arith}
use Rattle.nv_history.specs.Events.{open_session}
use Rattle.nv_core.specs.Outcomes.{stop_of_unopened}
use Rattle.nv_core.specs.declared.entry.Event.TheVariants as event
use Rattle.nv_core.specs.declared.effect.Effect.TheVariants as effect
use Rattle.nv_world.proofs.Holding.{entered, few_told, live_fits, refused, want_of}
use Rattle.nv_world.proofs.world.World.open.Goals as goal

pub push_reserved-requires-clause-few : goal.push_reserved-requires-clause-few
push_reserved-requires-clause-few c =
    few_told c.has_room.new.history.base c.self.inside.capacity c.self.inside.limits c.self.inside.history.entries c.has_room.new.history.entries c.numbers_of-numbers.result (c.has_room.ensures.base ∙ c.self.invariant.base) c.has_room.ensures.entries c.numbers_of-numbers.ensures.numbers c.numbers_of-numbers.ensures.few

pub invariant_of-self-in-Ok : goal.invariant_of-self-in-Ok
invariant_of-self-in-Ok c =
    let live = c.has_room.ensures.live c.if-not-has_room.false in
    record {
      base = c.push_reserved.ensures.base ∙ c.has_room.ensures.base ∙ c.self.invariant.base;
      holds = (entered c.self.inside.capacity c.self.inside.limits c.self.inside.history.entries c.has_room.new.history.entries c.push_reserved.new.self.entries
          c.self.inside.history.room c.push_reserved.new.self.room c.self.inside.machine.state c.open.new.self.state c.self.inside.machine.last.items c.open.new.self.last.items c.self.inside.machine.spent c.open.new.self.spent c.numbers_of-numbers.result
          c.args.self.now (record { caller = c.args.caller; event = event.Open }) (effect.Opened c.in-Ok.session) c.self.invariant.holds c.self.view_is live.0 c.in-Ok.ensures.spent c.numbers_of-numbers.ensures.numbers c.numbers_of-numbers.ensures.few c.has_room.ensures.entries c.push_reserved.ensures.entries
          (λ editor. refl)
          (λ w at. c.in-Ok.ensures.steps w at)
          (λ w v f at few is. live_fits c.self.inside.machine.state c.numbers_of-numbers.result w v open_session f c.push_reserved.new.self.room at is
          (omega (arith, c.has_room.ensures.room c.if-not-has_room.false, c.push_reserved.ensures.room, c.self.inside.machine.state.sessions.ok.0)))
          (λ w at. c.in-Ok.ensures.made refl w at)).holds;
    }

pub returns-in-Ok-clause-ok : goal.returns-in-Ok-clause-ok
returns-in-Ok-clause-ok c =
    let live = c.has_room.ensures.live c.if-not-has_room.false in
    (entered c.self.inside.capacity c.self.inside.limits c.self.inside.history.entries c.has_room.new.history.entries c.push_reserved.new.self.entries
    c.self.inside.history.room c.push_reserved.new.self.room c.self.inside.machine.state c.open.new.self.state c.self.inside.machine.last.items c.open.new.self.last.items c.self.inside.machine.spent c.open.new.self.spent c.numbers_of-numbers.result
    c.args.self.now (record { caller = c.args.caller; event = event.Open }) (effect.Opened c.in-Ok.session) c.self.invariant.holds c.self.view_is live.0 c.in-Ok.ensures.spent c.numbers_of-numbers.ensures.numbers c.numbers_of-numbers.ensures.few c.has_room.ensures.entries c.push_reserved.ensures.entries
    (λ editor. refl)
    (λ w at. c.in-Ok.ensures.steps w at)
    (λ w v f at few is. live_fits c.self.inside.machine.state c.numbers_of-numbers.result w v open_session f c.push_reserved.new.self.room at is
    (omega (arith, c.has_room.ensures.room c.if-not-has_room.false, c.push_reserved.ensures.room, c.self.inside.machine.state.sessions.ok.0)))
    (λ w at. c.in-Ok.ensures.made refl w at)).applies

pub invariant_of-self-in-Err : goal.invariant_of-self-in-Err
invariant_of-self-in-Err c =
    let live = c.has_room.ensures.live c.if-not-has_room.false in
    record {
      base = c.has_room.ensures.base ∙ c.self.invariant.base;
      holds = (refused c.self.inside.capacity c.self.inside.limits c.self.inside.history.entries c.has_room.new.history.entries c.self.inside.history.room c.has_room.new.history.room c.self.inside.machine.state c.open.new.self.state c.self.inside.machine.last.items c.open.new.self.last.items c.self.inside.machine.spent c.open.new.self.spent c.numbers_of-numbers.result
          c.args.self.now open_session (stop_of_unopened c.in-Err.why) c.self.invariant.holds c.self.view_is live.0 c.numbers_of-numbers.ensures.numbers c.numbers_of-numbers.ensures.few c.has_room.ensures.entries c.has_room.ensures.kept
          (c.in-Err.ensures.spent ∙ want_of (stop_of_unopened c.in-Err.why)) (λ w at. c.in-Err.ensures.steps w at) (c.in-Err.ensures.kept refl)).holds;
    }

pub returns-in-Err-clause-err : goal.returns-in-Err-clause-err
returns-in-Err-clause-err c =
    let live = c.has_room.ensures.live c.if-not-has_room.false in
    (refused c.self.inside.capacity c.self.inside.limits c.self.inside.history.entries c.has_room.new.history.entries c.self.inside.history.room c.has_room.new.history.room c.self.inside.machine.state c.open.new.self.state c.self.inside.machine.last.items c.open.new.self.last.items c.self.inside.machine.spent c.open.new.self.spent c.numbers_of-numbers.result
    c.args.self.now open_session (stop_of_unopened c.in-Err.why) c.self.invariant.holds c.self.view_is live.0 c.numbers_of-numbers.ensures.numbers c.numbers_of-numbers.ensures.few c.has_room.ensures.entries c.has_room.ensures.kept
    (c.in-Err.ensures.spent ∙ want_of (stop_of_unopened c.in-Err.why)) (λ w at. c.in-Err.ensures.steps w at) (c.in-Err.ensures.kept refl)).applies
