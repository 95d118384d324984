use Rattle.std.proofs.Common.{◌≡◌, refl, ap, ◌∙◌, subst, Ok, arith, rules}
use Rattle.nv_history.specs.Events.{take_of}
use Rattle.nv_history.specs.Worlds.{step}
use Rattle.nv_core.specs.Outcomes.{effect_of_taken, stop_of_untaken}
use Rattle.nv_core.specs.Bounds.{GivesSendable}
use Rattle.nv_core.specs.declared.calls.Taken.{Taken}
use Rattle.nv_core.specs.declared.calls.Taken.TheVariants as taken
use Rattle.nv_world.specs.inside.States.{Changes}
use Rattle.nv_core.specs.Outcomes.{taken_as}
use Rattle.nv_core.specs.declared.entry.Event.TheVariants as event
use Rattle.nv_core.specs.declared.effect.Effect.TheVariants as effect
use Rattle.nv_world.specs.Machines.{is_entering}
use Rattle.nv_world.proofs.Holding.{entered, few_told, idled, live_fits, now_at, refused, want_of}
use Rattle.nv_world.proofs.world.World.take.Goals as goal

pub take-requires-clause-world : goal.take-requires-clause-world
take-requires-clause-world c =
    let now = now_at c.self.inside.capacity c.self.inside.limits c.self.inside.history.entries c.self.inside.history.room c.self.inside.machine.state c.self.inside.machine.last.items c.self.inside.machine.spent c.numbers_of-numbers.result c.self.invariant.holds (c.has_room.ensures.live c.if-not-has_room.false).0 c.numbers_of-numbers.ensures.numbers c.numbers_of-numbers.ensures.few in
    (now.w, now.at)

pub push_reserved-requires-clause-few : goal.push_reserved-requires-clause-few
push_reserved-requires-clause-few c =
    few_told c.has_room.new.history.base c.self.inside.capacity c.self.inside.limits c.self.inside.history.entries c.has_room.new.history.entries c.numbers_of-numbers.result (c.has_room.ensures.base ∙ c.self.invariant.base) c.has_room.ensures.entries c.numbers_of-numbers.ensures.numbers c.numbers_of-numbers.ensures.few

pub invariant_of-self-in-Ok-Items : goal.invariant_of-self-in-Ok-Items
invariant_of-self-in-Ok-Items c =
    let live = c.has_room.ensures.live c.if-not-has_room.false in
    let is : c.in-Ok-Items.field-0 ≡ taken.Items c.in-Ok-Items.batch = search rules in
    record {
      base = c.push_reserved.ensures.base ∙ c.has_room.ensures.base ∙ c.self.invariant.base;
      holds = (entered c.self.inside.capacity c.self.inside.limits c.self.inside.history.entries c.has_room.new.history.entries c.push_reserved.new.self.entries
          c.self.inside.history.room c.push_reserved.new.self.room c.self.inside.machine.state c.take.new.self.state c.self.inside.machine.last.items c.take.new.self.last.items c.self.inside.machine.spent c.take.new.self.spent c.numbers_of-numbers.result
          c.args.self.now (record { caller = c.args.caller; event = (event.Take c.args.session) }) (effect.Items c.in-Ok-Items.batch) c.self.invariant.holds c.self.view_is live.0 c.in-Ok-Items.ensures.steps.spent c.numbers_of-numbers.ensures.numbers c.numbers_of-numbers.ensures.few c.has_room.ensures.entries c.push_reserved.ensures.entries
          (λ editor. refl)
          (λ w at. subst (λ (t : Taken). Changes c.self.inside.machine.state c.take.new.self.state c.numbers_of-numbers.result (taken_as c.args.session (Ok t)) (step w (take_of c.args.session))) is (c.in-Ok-Items.ensures.steps.steps w at))
          (λ w v f at few is. live_fits c.self.inside.machine.state c.numbers_of-numbers.result w v (take_of c.args.session) f c.push_reserved.new.self.room at is
          (omega (arith, c.has_room.ensures.room c.if-not-has_room.false, c.push_reserved.ensures.room, c.self.inside.machine.state.sessions.ok.0)))
          (λ w at. c.in-Ok-Items.ensures.steps.made (ap (λ (t : Taken). is_entering (taken_as c.args.session (Ok t))) is) w at)).holds;
    }

pub returns-in-Ok-Items-clause-ok : goal.returns-in-Ok-Items-clause-ok
returns-in-Ok-Items-clause-ok c =
    let live = c.has_room.ensures.live c.if-not-has_room.false in
    let is : c.in-Ok-Items.field-0 ≡ taken.Items c.in-Ok-Items.batch = search rules in
    (entered c.self.inside.capacity c.self.inside.limits c.self.inside.history.entries c.has_room.new.history.entries c.push_reserved.new.self.entries
    c.self.inside.history.room c.push_reserved.new.self.room c.self.inside.machine.state c.take.new.self.state c.self.inside.machine.last.items c.take.new.self.last.items c.self.inside.machine.spent c.take.new.self.spent c.numbers_of-numbers.result
    c.args.self.now (record { caller = c.args.caller; event = (event.Take c.args.session) }) (effect.Items c.in-Ok-Items.batch) c.self.invariant.holds c.self.view_is live.0 c.in-Ok-Items.ensures.steps.spent c.numbers_of-numbers.ensures.numbers c.numbers_of-numbers.ensures.few c.has_room.ensures.entries c.push_reserved.ensures.entries
    (λ editor. refl)
    (λ w at. subst (λ (t : Taken). Changes c.self.inside.machine.state c.take.new.self.state c.numbers_of-numbers.result (taken_as c.args.session (Ok t)) (step w (take_of c.args.session))) is (c.in-Ok-Items.ensures.steps.steps w at))
    (λ w v f at few is. live_fits c.self.inside.machine.state c.numbers_of-numbers.result w v (take_of c.args.session) f c.push_reserved.new.self.room at is
    (omega (arith, c.has_room.ensures.room c.if-not-has_room.false, c.push_reserved.ensures.room, c.self.inside.machine.state.sessions.ok.0)))
    (λ w at. c.in-Ok-Items.ensures.steps.made (ap (λ (t : Taken). is_entering (taken_as c.args.session (Ok t))) is) w at)).applies

pub returns-in-Ok-Items-clause-sendable : goal.returns-in-Ok-Items-clause-sendable
returns-in-Ok-Items-clause-sendable c =
    let live = c.has_room.ensures.live c.if-not-has_room.false in
    let is : c.in-Ok-Items.field-0 ≡ taken.Items c.in-Ok-Items.batch = search rules in
    let now = now_at c.self.inside.capacity c.self.inside.limits c.self.inside.history.entries c.self.inside.history.room c.self.inside.machine.state c.self.inside.machine.last.items c.self.inside.machine.spent c.numbers_of-numbers.result c.self.invariant.holds live.0 c.numbers_of-numbers.ensures.numbers c.numbers_of-numbers.ensures.few in
    subst (λ (t : Taken). GivesSendable (effect_of_taken t)) is (c.in-Ok-Items.ensures.sendable now.w now.at)

pub invariant_of-self-in-Ok-Nothing : goal.invariant_of-self-in-Ok-Nothing
invariant_of-self-in-Ok-Nothing c =
    let live = c.has_room.ensures.live c.if-not-has_room.false in
    let is : c.in-Ok-Nothing.field-0 ≡ taken.Nothing = search rules in
    record {
      base = c.has_room.ensures.base ∙ c.self.invariant.base;
      holds = (idled c.self.inside.capacity c.self.inside.limits c.self.inside.history.entries c.has_room.new.history.entries c.self.inside.history.room c.has_room.new.history.room c.self.inside.machine.state c.take.new.self.state c.self.inside.machine.last.items c.take.new.self.last.items c.self.inside.machine.spent c.take.new.self.spent c.numbers_of-numbers.result
          c.args.self.now (record { caller = c.args.caller; event = (event.Take c.args.session) }) effect.Nothing c.self.invariant.holds c.self.view_is live.0 c.in-Ok-Nothing.ensures.steps.spent c.numbers_of-numbers.ensures.numbers c.numbers_of-numbers.ensures.few c.has_room.ensures.entries c.has_room.ensures.kept
          (λ editor. refl)
          (λ w at. subst (λ (t : Taken). Changes c.self.inside.machine.state c.take.new.self.state c.numbers_of-numbers.result (taken_as c.args.session (Ok t)) (step w (take_of c.args.session))) is (c.in-Ok-Nothing.ensures.steps.steps w at))
          (c.in-Ok-Nothing.ensures.steps.kept (ap (λ (t : Taken). is_entering (taken_as c.args.session (Ok t))) is))).holds;
    }

pub returns-in-Ok-Nothing-clause-ok : goal.returns-in-Ok-Nothing-clause-ok
returns-in-Ok-Nothing-clause-ok c =
    let live = c.has_room.ensures.live c.if-not-has_room.false in
    let is : c.in-Ok-Nothing.field-0 ≡ taken.Nothing = search rules in
    (idled c.self.inside.capacity c.self.inside.limits c.self.inside.history.entries c.has_room.new.history.entries c.self.inside.history.room c.has_room.new.history.room c.self.inside.machine.state c.take.new.self.state c.self.inside.machine.last.items c.take.new.self.last.items c.self.inside.machine.spent c.take.new.self.spent c.numbers_of-numbers.result
    c.args.self.now (record { caller = c.args.caller; event = (event.Take c.args.session) }) effect.Nothing c.self.invariant.holds c.self.view_is live.0 c.in-Ok-Nothing.ensures.steps.spent c.numbers_of-numbers.ensures.numbers c.numbers_of-numbers.ensures.few c.has_room.ensures.entries c.has_room.ensures.kept
    (λ editor. refl)
    (λ w at. subst (λ (t : Taken). Changes c.self.inside.machine.state c.take.new.self.state c.numbers_of-numbers.result (taken_as c.args.session (Ok t)) (step w (take_of c.args.session))) is (c.in-Ok-Nothing.ensures.steps.steps w at))
    (c.in-Ok-Nothing.ensures.steps.kept (ap (λ (t : Taken). is_entering (taken_as c.args.session (Ok t))) is))).applies

pub invariant_of-self-in-Ok-Over : goal.invariant_of-self-in-Ok-Over
invariant_of-self-in-Ok-Over c =
    let live = c.has_room.ensures.live c.if-not-has_room.false in
    let is : c.in-Ok-Over.field-0 ≡ taken.Over c.in-Ok-Over.cause = search rules in
    record {
      base = c.has_room.ensures.base ∙ c.self.invariant.base;
      holds = (idled c.self.inside.capacity c.self.inside.limits c.self.inside.history.entries c.has_room.new.history.entries c.self.inside.history.room c.has_room.new.history.room c.self.inside.machine.state c.take.new.self.state c.self.inside.machine.last.items c.take.new.self.last.items c.self.inside.machine.spent c.take.new.self.spent c.numbers_of-numbers.result
          c.args.self.now (record { caller = c.args.caller; event = (event.Take c.args.session) }) (effect.Over c.in-Ok-Over.cause) c.self.invariant.holds c.self.view_is live.0 c.in-Ok-Over.ensures.steps.spent c.numbers_of-numbers.ensures.numbers c.numbers_of-numbers.ensures.few c.has_room.ensures.entries c.has_room.ensures.kept
          (λ editor. refl)
          (λ w at. subst (λ (t : Taken). Changes c.self.inside.machine.state c.take.new.self.state c.numbers_of-numbers.result (taken_as c.args.session (Ok t)) (step w (take_of c.args.session))) is (c.in-Ok-Over.ensures.steps.steps w at))
          (c.in-Ok-Over.ensures.steps.kept (ap (λ (t : Taken). is_entering (taken_as c.args.session (Ok t))) is))).holds;
    }

pub returns-in-Ok-Over-clause-ok : goal.returns-in-Ok-Over-clause-ok
returns-in-Ok-Over-clause-ok c =
    let live = c.has_room.ensures.live c.if-not-has_room.false in
    let is : c.in-Ok-Over.field-0 ≡ taken.Over c.in-Ok-Over.cause = search rules in
    (idled c.self.inside.capacity c.self.inside.limits c.self.inside.history.entries c.has_room.new.history.entries c.self.inside.history.room c.has_room.new.history.room c.self.inside.machine.state c.take.new.self.state c.self.inside.machine.last.items c.take.new.self.last.items c.self.inside.machine.spent c.take.new.self.spent c.numbers_of-numbers.result
    c.args.self.now (record { caller = c.args.caller; event = (event.Take c.args.session) }) (effect.Over c.in-Ok-Over.cause) c.self.invariant.holds c.self.view_is live.0 c.in-Ok-Over.ensures.steps.spent c.numbers_of-numbers.ensures.numbers c.numbers_of-numbers.ensures.few c.has_room.ensures.entries c.has_room.ensures.kept
    (λ editor. refl)
    (λ w at. subst (λ (t : Taken). Changes c.self.inside.machine.state c.take.new.self.state c.numbers_of-numbers.result (taken_as c.args.session (Ok t)) (step w (take_of c.args.session))) is (c.in-Ok-Over.ensures.steps.steps w at))
    (c.in-Ok-Over.ensures.steps.kept (ap (λ (t : Taken). is_entering (taken_as c.args.session (Ok t))) is))).applies

pub invariant_of-self-in-Err : goal.invariant_of-self-in-Err
invariant_of-self-in-Err c =
    let live = c.has_room.ensures.live c.if-not-has_room.false in
    record {
      base = c.has_room.ensures.base ∙ c.self.invariant.base;
      holds = (refused c.self.inside.capacity c.self.inside.limits c.self.inside.history.entries c.has_room.new.history.entries c.self.inside.history.room c.has_room.new.history.room c.self.inside.machine.state c.take.new.self.state c.self.inside.machine.last.items c.take.new.self.last.items c.self.inside.machine.spent c.take.new.self.spent c.numbers_of-numbers.result
          c.args.self.now (take_of c.args.session) (stop_of_untaken c.args.session c.in-Err.why) c.self.invariant.holds c.self.view_is live.0 c.numbers_of-numbers.ensures.numbers c.numbers_of-numbers.ensures.few c.has_room.ensures.entries c.has_room.ensures.kept
          (c.in-Err.ensures.steps.spent ∙ want_of (stop_of_untaken c.args.session c.in-Err.why)) (λ w at. c.in-Err.ensures.steps.steps w at) (c.in-Err.ensures.steps.kept refl)).holds;
    }

pub returns-in-Err-clause-err : goal.returns-in-Err-clause-err
returns-in-Err-clause-err c =
    let live = c.has_room.ensures.live c.if-not-has_room.false in
    (refused c.self.inside.capacity c.self.inside.limits c.self.inside.history.entries c.has_room.new.history.entries c.self.inside.history.room c.has_room.new.history.room c.self.inside.machine.state c.take.new.self.state c.self.inside.machine.last.items c.take.new.self.last.items c.self.inside.machine.spent c.take.new.self.spent c.numbers_of-numbers.result
    c.args.self.now (take_of c.args.session) (stop_of_untaken c.args.session c.in-Err.why) c.self.invariant.holds c.self.view_is live.0 c.numbers_of-numbers.ensures.numbers c.numbers_of-numbers.ensures.few c.has_room.ensures.entries c.has_room.ensures.kept
    (c.in-Err.ensures.steps.spent ∙ want_of (stop_of_untaken c.args.session c.in-Err.why)) (λ w at. c.in-Err.ensures.steps.steps w at) (c.in-Err.ensures.steps.kept refl)).applies
