use Rattle.std.proofs.Common.{is_none, refl, sym, ap, ◌∙◌}
use Rattle.nv_core.specs.Contents.{plain_stop}
use Rattle.nv_core.specs.Outcomes.{stop_of_unclosed}
use Rattle.nv_core.specs.declared.effect.Stop.{Stop}
use Rattle.nv_world.proofs.Holding.{true_false, want_of}
use Rattle.nv_world.proofs.machine.Machine.close.Goals as goal

pub close_session-requires : goal.close_session-requires
close_session-requires c = record { settled = c.requires.world.1.stands.settled }

pub returns-in-Ok-clause-steps : goal.returns-in-Ok-clause-steps
returns-in-Ok-clause-steps c = record {
  steps = λ w at. c.in-Ok.ensures.steps w at;
  made = λ enters w at. c.new.ensures.items;
  kept = λ stays. true_false stays;
  spent = c.requires.live;
}

pub returns-in-Err-clause-steps : goal.returns-in-Err-clause-steps
returns-in-Err-clause-steps c = record {
  steps = λ w at. c.in-Err.ensures.steps w at;
  made = λ enters. true_false (sym enters);
  kept = λ stays. refl;
  spent = c.is_want-self.ensures ∙ ap (λ (s : Stop). is_none (plain_stop s)) c.stop.ensures ∙ sym (want_of (stop_of_unclosed c.args.session c.in-Err.why));
}
