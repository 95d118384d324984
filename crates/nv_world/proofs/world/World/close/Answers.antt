use Rattle.std.proofs.Common.{refl, ◌∙◌, arith}
use Rattle.nv_history.specs.Events.{close_of}
use Rattle.nv_core.specs.Outcomes.{stop_of_unclosed}
use Rattle.nv_core.specs.declared.entry.Event.TheVariants as event
use Rattle.nv_core.specs.declared.effect.Effect.TheVariants as effect
use Rattle.nv_world.proofs.Holding.{at_world, close_fits, entered, few_told, now_at, one_less, refused, want_of}
use Rattle.nv_world.proofs.world.World.close.Goals as goal

pub close-requires-clause-world : goal.close-requires-clause-world
close-requires-clause-world c =
    let now = now_at c.self.inside.capacity c.self.inside.limits c.self.inside.history.entries c.self.inside.history.room c.self.inside.machine.state c.self.inside.machine.last.items c.self.inside.machine.spent c.numbers_of-numbers.result c.self.invariant.holds c.if-self.false c.numbers_of-numbers.ensures.numbers c.numbers_of-numbers.ensures.few in
    (now.w, now.at)

pub push_reserved-requires-clause-few : goal.push_reserved-requires-clause-few
push_reserved-requires-clause-few c =
    few_told c.self.inside.history.base c.self.inside.capacity c.self.inside.limits c.self.inside.history.entries c.self.inside.history.entries c.numbers_of-numbers.result c.self.invariant.base refl c.numbers_of-numbers.ensures.numbers c.numbers_of-numbers.ensures.few

pub push_reserved-requires-clause-room : goal.push_reserved-requires-clause-room
push_reserved-requires-clause-room c =
    close_fits c.self.inside.capacity c.self.inside.limits c.self.inside.history.entries c.self.inside.history.room c.self.inside.machine.state c.close.new.self.state c.self.inside.machine.last.items c.self.inside.machine.spent c.numbers_of-numbers.result c.args.session effect.Closed c.self.invariant.holds c.if-self.false c.numbers_of-numbers.ensures.numbers c.numbers_of-numbers.ensures.few (λ editor. refl) (λ w at. c.in-Ok.ensures.steps.steps w at)

pub invariant_of-self : goal.invariant_of-self
invariant_of-self c =
    record {
      base = c.push_reserved.ensures.base ∙ c.self.invariant.base;
      holds = (entered c.self.inside.capacity c.self.inside.limits c.self.inside.history.entries c.self.inside.history.entries c.push_reserved.new.self.entries
          c.self.inside.history.room c.push_reserved.new.self.room c.self.inside.machine.state c.close.new.self.state c.self.inside.machine.last.items c.close.new.self.last.items c.self.inside.machine.spent c.close.new.self.spent c.numbers_of-numbers.result
          c.args.self.now (record { caller = c.args.caller; event = (event.Close c.args.session) }) effect.Closed c.self.invariant.holds c.self.view_is c.if-self.false c.in-Ok.ensures.steps.spent c.numbers_of-numbers.ensures.numbers c.numbers_of-numbers.ensures.few refl c.push_reserved.ensures.entries
          (λ editor. refl)
          (λ w at. c.in-Ok.ensures.steps.steps w at)
          (λ w v f at few is. one_less w v c.args.session f c.self.inside.history.room c.push_reserved.new.self.room few is c.push_reserved.ensures.room)
          (λ w at. c.in-Ok.ensures.steps.made refl w at)).holds;
    }

pub returns-in-Ok-clause-ok : goal.returns-in-Ok-clause-ok
returns-in-Ok-clause-ok c =
    (entered c.self.inside.capacity c.self.inside.limits c.self.inside.history.entries c.self.inside.history.entries c.push_reserved.new.self.entries
    c.self.inside.history.room c.push_reserved.new.self.room c.self.inside.machine.state c.close.new.self.state c.self.inside.machine.last.items c.close.new.self.last.items c.self.inside.machine.spent c.close.new.self.spent c.numbers_of-numbers.result
    c.args.self.now (record { caller = c.args.caller; event = (event.Close c.args.session) }) effect.Closed c.self.invariant.holds c.self.view_is c.if-self.false c.in-Ok.ensures.steps.spent c.numbers_of-numbers.ensures.numbers c.numbers_of-numbers.ensures.few refl c.push_reserved.ensures.entries
    (λ editor. refl)
    (λ w at. c.in-Ok.ensures.steps.steps w at)
    (λ w v f at few is. one_less w v c.args.session f c.self.inside.history.room c.push_reserved.new.self.room few is c.push_reserved.ensures.room)
    (λ w at. c.in-Ok.ensures.steps.made refl w at)).applies

pub invariant_of-self-in-Err : goal.invariant_of-self-in-Err
invariant_of-self-in-Err c =
    record {
      base = c.self.invariant.base;
      holds = (refused c.self.inside.capacity c.self.inside.limits c.self.inside.history.entries c.self.inside.history.entries c.self.inside.history.room c.self.inside.history.room c.self.inside.machine.state c.close.new.self.state c.self.inside.machine.last.items c.close.new.self.last.items c.self.inside.machine.spent c.close.new.self.spent c.numbers_of-numbers.result
          c.args.self.now (close_of c.args.session) (stop_of_unclosed c.args.session c.in-Err.why) c.self.invariant.holds c.self.view_is c.if-self.false c.numbers_of-numbers.ensures.numbers c.numbers_of-numbers.ensures.few refl (omega arith)
          (c.in-Err.ensures.steps.spent ∙ want_of (stop_of_unclosed c.args.session c.in-Err.why)) (λ w at. c.in-Err.ensures.steps.steps w at) (c.in-Err.ensures.steps.kept refl)).holds;
    }

pub returns-in-Err-clause-err : goal.returns-in-Err-clause-err
returns-in-Err-clause-err c =
    (refused c.self.inside.capacity c.self.inside.limits c.self.inside.history.entries c.self.inside.history.entries c.self.inside.history.room c.self.inside.history.room c.self.inside.machine.state c.close.new.self.state c.self.inside.machine.last.items c.close.new.self.last.items c.self.inside.machine.spent c.close.new.self.spent c.numbers_of-numbers.result
    c.args.self.now (close_of c.args.session) (stop_of_unclosed c.args.session c.in-Err.why) c.self.invariant.holds c.self.view_is c.if-self.false c.numbers_of-numbers.ensures.numbers c.numbers_of-numbers.ensures.few refl (omega arith)
    (c.in-Err.ensures.steps.spent ∙ want_of (stop_of_unclosed c.args.session c.in-Err.why)) (λ w at. c.in-Err.ensures.steps.steps w at) (c.in-Err.ensures.steps.kept refl)).applies

pub returns-in-Err-clause-gone : goal.returns-in-Err-clause-gone
returns-in-Err-clause-gone c = λ w runs.
    c.in-Err.ensures.gone w
    (at_world c.self.inside.capacity c.self.inside.limits c.self.inside.history.entries c.self.inside.history.room c.self.inside.machine.state c.self.inside.machine.last.items c.self.inside.machine.spent c.numbers_of-numbers.result c.args.self.now w c.self.invariant.holds c.self.view_is c.if-self.false c.numbers_of-numbers.ensures.numbers c.numbers_of-numbers.ensures.few runs)

pub returns-in-Err-clause-memory : goal.returns-in-Err-clause-memory
returns-in-Err-clause-memory c = λ w live runs.
    c.in-Err.ensures.memory w
    (at_world c.self.inside.capacity c.self.inside.limits c.self.inside.history.entries c.self.inside.history.room c.self.inside.machine.state c.self.inside.machine.last.items c.self.inside.machine.spent c.numbers_of-numbers.result c.args.self.now w c.self.invariant.holds c.self.view_is c.if-self.false c.numbers_of-numbers.ensures.numbers c.numbers_of-numbers.ensures.few runs)
