use Rattle.std.proofs.Common.{◌++◌, ◌∙◌, ap, length, List, ℕ}
use Rattle.std.proofs.lemmas.Result.{err_from_is_err_and}
use Rattle.nv_core.specs.declared.entry.Entry as world
use Rattle.nv_book.proofs.Standing.{gave_then}
use Rattle.nv_book.proofs.Entering.{play_stopped, output_at, entered_at}
use Rattle.nv_book.proofs.replay.enter.Goals as goal

pub returns-in_err-session-clause-goes : goal.returns-in_err-session-clause-goes
returns-in_err-session-clause-goes g c =
    let p = c.in_err-session.ensures.plays in
    let e = err_from_is_err_and c.from_residual.result c.from_residual.ensures.1 in (
      p.0,
      p.1,
      λ start fed records played i.
          rw (e.1, e.2) (play_stopped start fed p.0 _ records played c.args.place c.args.heading c.args.intake.now _ c.args.player.now _ _ i p.2),
    )

pub returns-in_err-read_output-clause-goes : goal.returns-in_err-read_output-clause-goes
returns-in_err-read_output-clause-goes g c =
    let p = c.in_ok-session.ensures.plays in
    let o = c.in_err-read_output.ensures.reads in
    let e = err_from_is_err_and c.from_residual-in_err-read_output.result c.from_residual-in_err-read_output.ensures.1 in (
      p.0 ++ o.0,
      gave_then _ _ _ _ _ _ p.0 o.0 p.1 o.1,
      λ start fed records played i.
          rw (e.1, e.2)
          (output_at start fed p.0 o.0 _ records played c.args.place c.in_ok-session.session c.args.heading c.args.intake.now c.play_entry.new.intake c.read_output.new.intake c.args.player.now c.play_entry.new.player c.read_output.new.into.items _ i p.2.0 p.2.1 p.2.2 (o.2 fed)),
    )

pub returns-clause-goes : goal.returns-clause-goes
returns-clause-goes g c =
    let p = c.in_ok-session.ensures.plays in
    let o = c.in_ok-read_output.ensures.reads in (
      p.0 ++ o.0,
      gave_then _ _ _ _ _ _ p.0 o.0 p.1 o.1,
      λ start fed records played i.
          entered_at start fed p.0 o.0 records played c.args.place _ c.in_ok-session.session c.args.heading c.args.intake.now c.play_entry.new.intake c.read_output.new.intake c.args.player.now c.play_entry.new.player c.read_output.new.into.items c.in_ok-step.step i p.2.0 p.2.1 p.2.2 (o.2 fed)
          (c.len-at.ensures.count ∙ ap (length {A = world.Entry}) c.history.ensures.history) c.in_ok-step.ensures.made,
    )

pub returns-clause-enters : goal.returns-clause-enters
returns-clause-enters g c = record {
  world = c.in_ok-session.ensures.plays.2.2.world;
  known = c.in_ok-session.ensures.known;
  number = c.in_ok-step.ensures.made.at_is ∙ (c.len-at.ensures.count ∙ ap (length {A = world.Entry}) c.history.ensures.history);
  splices = c.in_ok-step.ensures.made.splices_are;
  runs = c.in_ok-step.ensures.runs;
}
