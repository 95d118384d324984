use Rattle.std.proofs.Common.{is_none, ◌≡◌, refl, sym, ap, ◌∙◌, subst, Ok, rules}
use Rattle.nv_history.specs.Events.{take_of}
use Rattle.nv_history.specs.Worlds.{step}
use Rattle.nv_core.specs.Bounds.{GivesSendable}
use Rattle.nv_core.specs.Contents.{plain_stop}
use Rattle.nv_core.specs.Outcomes.{effect_of_taken, stop_of_untaken, taken_as}
use Rattle.nv_core.specs.declared.calls.Taken.{Taken}
use Rattle.nv_core.specs.declared.calls.Taken.TheVariants as taken
use Rattle.nv_core.specs.declared.effect.Stop.{Stop}
use Rattle.nv_world.specs.inside.States.{Changes}
use Rattle.nv_world.proofs.Holding.{true_false, want_of}
use Rattle.nv_world.proofs.machine.Machine.take.Goals as goal

pub take-requires : goal.take-requires
take-requires c = record { settled = c.requires.world.1.stands.settled }

pub returns-in-Ok-Items-clause-steps : goal.returns-in-Ok-Items-clause-steps
returns-in-Ok-Items-clause-steps c =
    let is : c.in-Ok-Items.field-0 ≡ taken.Items c.in-Ok-Items.batch = search rules in record {
      steps = λ w at. subst (λ (t : Taken). Changes c.args.self.now.state c.take.new.state c.args.numbers (taken_as c.args.session (Ok t)) (step w (take_of c.args.session))) is (c.in-Ok-Items.ensures.steps w at);
      made = λ enters w at. c.new.ensures.items;
      kept = λ stays. true_false stays;
      spent = c.requires.live;
    }

pub returns-in-Ok-Nothing-clause-steps : goal.returns-in-Ok-Nothing-clause-steps
returns-in-Ok-Nothing-clause-steps c =
    let is : c.in-Ok-Nothing.field-0 ≡ taken.Nothing = search rules in record {
      steps = λ w at. subst (λ (t : Taken). Changes c.args.self.now.state c.take.new.state c.args.numbers (taken_as c.args.session (Ok t)) (step w (take_of c.args.session))) is (c.in-Ok-Nothing.ensures.steps w at);
      made = λ enters. true_false (sym enters);
      kept = λ stays. refl;
      spent = c.requires.live;
    }

pub returns-in-Ok-Over-clause-steps : goal.returns-in-Ok-Over-clause-steps
returns-in-Ok-Over-clause-steps c =
    let is : c.in-Ok-Over.field-0 ≡ taken.Over c.in-Ok-Over.cause = search rules in record {
      steps = λ w at. subst (λ (t : Taken). Changes c.args.self.now.state c.take.new.state c.args.numbers (taken_as c.args.session (Ok t)) (step w (take_of c.args.session))) is (c.in-Ok-Over.ensures.steps w at);
      made = λ enters. true_false (sym enters);
      kept = λ stays. refl;
      spent = c.requires.live;
    }

pub returns-in-Ok-Items-clause-sendable : goal.returns-in-Ok-Items-clause-sendable
returns-in-Ok-Items-clause-sendable c = λ w at.
    let is : c.in-Ok-Items.field-0 ≡ taken.Items c.in-Ok-Items.batch = search rules in
    subst (λ (t : Taken). GivesSendable (effect_of_taken t)) is (c.in-Ok-Items.ensures.sendable w at)

pub returns-in-Err-clause-steps : goal.returns-in-Err-clause-steps
returns-in-Err-clause-steps c = record {
  steps = λ w at. c.in-Err.ensures.steps w at;
  made = λ enters. true_false (sym enters);
  kept = λ stays. refl;
  spent = c.is_want-self.ensures ∙ ap (λ (s : Stop). is_none (plain_stop s)) c.stop.ensures ∙ sym (want_of (stop_of_untaken c.args.session c.in-Err.why));
}
