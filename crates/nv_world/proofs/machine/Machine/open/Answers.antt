use Rattle.std.proofs.Common.{is_none, refl, sym, ap, ◌∙◌}
use Rattle.nv_core.specs.Contents.{plain_stop}
use Rattle.nv_core.specs.Outcomes.{stop_of_unopened}
use Rattle.nv_core.specs.declared.effect.Stop.{Stop}
use Rattle.nv_world.proofs.Holding.{true_false, want_of}
use Rattle.nv_world.proofs.machine.Machine.open.Goals as goal

pub returns-in-Ok : goal.returns-in-Ok
returns-in-Ok c = record {
  steps = λ w at. c.in-Ok.ensures w at;
  made = λ enters w at. c.new.ensures.items;
  kept = λ stays. true_false stays;
  spent = c.requires.live;
}

pub returns-in-Err : goal.returns-in-Err
returns-in-Err c = record {
  steps = λ w at. c.in-Err.ensures w at;
  made = λ enters. true_false (sym enters);
  kept = λ stays. refl;
  spent = c.is_want-self.ensures ∙ ap (λ (s : Stop). is_none (plain_stop s)) c.stop.ensures ∙ sym (want_of (stop_of_unopened c.in-Err.why));
}
