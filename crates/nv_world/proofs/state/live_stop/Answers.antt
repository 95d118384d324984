use Rattle.std.proofs.Common.{◌≡◌, Option, Some, option_map, sym, ap, ◌∙◌, refl, length}
use Rattle.nv_history.specs.Events.{Cause, entry_of, gone_by, held_with}
use Rattle.nv_history.specs.Worlds.{live_request_outcome}
use Rattle.nv_core.specs.Contents.{plain_cause}
use Rattle.nv_core.specs.declared.effect.Cause.{Cause as KeptCause}
use Rattle.nv_world.proofs.Finding.{held_is, min_is}
use Rattle.nv_world.proofs.state.live_stop.Goals as goal

pub returns-in-Some-clause-stop : goal.returns-in-Some-clause-stop
returns-in-Some-clause-stop c = λ w s call y same is.
    let shut : Some (plain_cause c.in-Some.cause) ≡ y.closed =
    sym (ap (λ (o : Option KeptCause). option_map plain_cause o) c.in-Some.is) ∙ is.closed in (
      gone_by (entry_of (plain_cause c.in-Some.cause)),
      refl,
      sym (ap (λ (o : Option Cause). live_request_outcome o w s y call) shut),
    )

pub returns-in-Some-clause-gone : goal.returns-in-Some-clause-gone
returns-in-Some-clause-gone c = λ y is. sym is.closed ∙ ap (λ (o : Option KeptCause). option_map plain_cause o) c.in-Some.is

pub returns-then-waiting-capacity-clause-stop : goal.returns-then-waiting-capacity-clause-stop
returns-then-waiting-capacity-clause-stop c = λ w s call y same is. (
  held_with c.min.result,
  refl,
  held_is w s y call c.args.capacity c.waiting-waiting.result c.min.result same
      (sym is.closed ∙ ap (λ (o : Option KeptCause). option_map plain_cause o) c.in_default.is)
      (c.waiting-waiting.ensures.value ∙ ap length is.waiting) c.if-waiting-capacity.true
      (min_is _ _ _ c.min.ensures (c.waiting-waiting.ensures.within c.args.capacity is.outbox)),
)
