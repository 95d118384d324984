use Rattle.std.proofs.Common.{is_none, List, ◌++◌, refl, sym, ap, ◌∙◌}
use Rattle.nv_rpc.specs.Frames.{call_of_frame}
use Rattle.nv_history.specs.Events.{request_of}
use Rattle.nv_core.specs.Contents.{plain_stop}
use Rattle.nv_core.specs.Outcomes.{stop_of_unasked}
use Rattle.nv_core.specs.declared.effect.Stop.{Stop}
use Rattle.nv_world.specs.Steps.{splices_of_event}
use Rattle.nv_world.specs.declared.step.Moved.{Moved}
use Rattle.nv_world.proofs.Holding.{true_false, want_of}
use Rattle.nv_world.proofs.machine.Machine.request.Goals as goal

pub request-requires-clause-sealed : goal.request-requires-clause-sealed
request-requires-clause-sealed c = c.requires.world.1.stands.state.sealed

pub returns-in-Ok-clause-steps : goal.returns-in-Ok-clause-steps
returns-in-Ok-clause-steps c = record {
  steps = λ w at. c.in-Ok.ensures.steps w at;
  made = λ enters w at. c.in-Ok.ensures.splices w at
      ∙ ap (λ (l : List Moved). l ++ splices_of_event w (request_of c.args.session (call_of_frame c.args.frame.now))) c.new-splices.ensures.items;
  kept = λ stays. true_false stays;
  spent = c.requires.live;
}

pub returns-in-Err-clause-steps : goal.returns-in-Err-clause-steps
returns-in-Err-clause-steps c = record {
  steps = λ w at. c.in-Err.ensures.steps w at;
  made = λ enters. true_false (sym enters);
  kept = λ stays. refl;
  spent = c.is_want-self.ensures ∙ ap (λ (s : Stop). is_none (plain_stop s)) c.stop.ensures ∙ sym (want_of (stop_of_unasked c.args.session c.in-Err.why));
}
