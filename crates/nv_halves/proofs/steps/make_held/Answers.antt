use Rattle.std.proofs.Common.{refl, sym, ◌∙◌, subst}
use Rattle.nv_calls.specs.Intakes.{IsLive, WantsMore}
use Rattle.nv_halves.proofs.Intaking.{makes_none, makes_on, makes_waits, stops_on}
use Rattle.nv_halves.proofs.steps.make_held.Goals as goal

pub calls-init : goal.calls-init
calls-init g c = record { made = makes_none c.args.intake.now _ _; at_turn = refl; live = c.requires.live }

pub calls-preserved : goal.calls-preserved
calls-preserved g c =
    let s = rw c.in-On.is at c.step-next.ensures.steps in
    record {
      made = makes_on _ c.args.intake.now c.calls.intake c.step-next.new.intake _ _ _ _ c.calls.invariant.made s.0;
      at_turn = s.0.asks.same.turn ∙ c.calls.invariant.at_turn;
      live = s.1;
    }

pub calls-smaller : goal.calls-smaller
calls-smaller g c =
    let s = rw c.in-On.is at c.step-next.ensures.steps in
    s.2

pub returns-in-Ends-clause-makes : goal.returns-in-Ends-clause-makes
returns-in-Ends-clause-makes g c =
    let s = rw c.in-Ends.is at c.step-next.ensures.steps in
    stops_on ⊥ c.in-Ends.end _ c.args.intake.now c.calls.intake _ _ _ _ c.calls.invariant.made s

pub returns-in-Waits-clause-makes : goal.returns-in-Waits-clause-makes
returns-in-Waits-clause-makes g c =
    let s = rw c.in-Waits.is at c.step-next.ensures.steps in (
      makes_waits _ c.args.intake.now c.calls.intake c.step-next.new.intake _ _ _ _ c.calls.invariant.made s.0 s.2,
      subst IsLive (sym s.0) c.calls.invariant.live,
      subst WantsMore (sym s.0) s.1,
    )
