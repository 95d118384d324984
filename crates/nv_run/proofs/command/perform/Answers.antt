use Rattle.std.proofs.Common.{◌≡◌, Option, Some, rules, refl, sym, subst, ap, ◌∙◌}
use Rattle.std.specs.Prelude.{option_map}
use Rattle.nv_core.specs.Contents.{plain_entries}
use Rattle.nv_dispatch.specs.Runs.{usual_limits}
use Rattle.nv_model.specs.declared.parts.Limits.{Limits}
use Rattle.nv_history.specs.Worlds.{fresh_world}
use Rattle.nv_gen.specs.Story.{script_of}
use Rattle.nv_replay.specs.Ends.{WriteEnds, start_within}
use Rattle.nv_replay.specs.Entering.{entered}
use Rattle.nv_words.specs.Commands.{PlainCommand, embeds, follows_buffer, generates, plain_command, replays, serves, shows}
use Rattle.nv_run.specs.Commands.{RunsAs}
use Rattle.nv_run.proofs.Asked.{command_as}
use Rattle.nv_run.proofs.Books.{may_book}
use Rattle.nv_run.proofs.Replays.{file_runs}
use Rattle.nv_run.proofs.command.perform.Goals as goal

pub serve-ended-requires-clause-may : goal.serve-ended-requires-clause-may
serve-ended-requires-clause-may g c = λ κs out.
    let s = c.in-Serve in
    let is : Some (plain_command c.args.command) ≡ Some (serves s.address.now s.sessions s.outbox (option_map (λ name. name.now) s.book)) = search rules in
    c.requires.may s.address.now s.sessions s.outbox (option_map (λ name. name.now) s.book) is

pub serve-ended-requires-clause-open : goal.serve-ended-requires-clause-open
serve-ended-requires-clause-open g c = λ κs out.
    let s = c.in-Serve in
    let is : Some (plain_command c.args.command) ≡ Some (serves s.address.now s.sessions s.outbox (option_map (λ name. name.now) s.book)) = search rules in
    may_book (λ name. name.now) s.book g.F.Files.may
    (λ name e. c.requires.open.0 s.address.now s.sessions s.outbox name (is ∙ ap (λ b. Some (serves s.address.now s.sessions s.outbox b)) e))

pub replay-ended-requires : goal.replay-ended-requires
replay-ended-requires g c =
    let r = c.in-Replay in
    let is : Some (plain_command c.args.command) ≡ Some (replays r.file.now r.check) = search rules in
    c.requires.open.1 r.file.now r.check is

pub returns-in-Embed-clause-command : goal.returns-in-Embed-clause-command
returns-in-Embed-clause-command g c =
    let e = c.embed-ended.ensures in
    let is : Some (plain_command c.args.command) ≡ Some (embeds c.in-Embed.outbox) = search rules in
    command_as _ _ _ _ _ _ _ _ is (record {
      ended = c.embed-ended.result;
      status_is = c.status_of.ensures;
      line = c.tell_end.ensures;
      pieces = e.ends.0;
      gave = e.ends.1;
      ends = e.ends.2;
      read = e.read;
      write = e.write;
      others = (refl, refl, refl);
    })

pub returns-in-Serve-clause-command : goal.returns-in-Serve-clause-command
returns-in-Serve-clause-command g c =
    let s = c.in-Serve in
    let e = c.serve-ended.ensures in
    let is : Some (plain_command c.args.command) ≡ Some (serves s.address.now s.sessions s.outbox (option_map (λ name. name.now) s.book)) = search rules in
    command_as _ _ _ _ _ _ _ _ is (record {
      ended = c.serve-ended.result;
      status_is = c.status_of_server.ensures;
      line = c.tell_server.ensures;
      lanes = e.ends;
      book_is = e.book;
      sources = e.sources;
      lent = e.lent;
      others = (refl, refl, refl);
    })

pub returns-in-Replay-clause-command : goal.returns-in-Replay-clause-command
returns-in-Replay-clause-command g c =
    let r = c.in-Replay in
    let e = c.replay-ended.ensures in
    let is : Some (plain_command c.args.command) ≡ Some (replays r.file.now r.check) = search rules in
    command_as _ _ _ _ _ _ _ _ is (record {
      ended = c.replay-ended.result;
      status_is = c.status_of_replay.ensures;
      line = c.tell_replay.ensures;
      file = e.file;
      write = e.write;
      sinks = e.sinks;
      others = (refl, refl, refl);
    })

pub returns-in-Replay-clause-runs : goal.returns-in-Replay-clause-runs
returns-in-Replay-clause-runs g c =
    let r = c.in-Replay in
    let is : Some (plain_command c.args.command) ≡ Some (replays r.file.now r.check) = search rules in
    subst (λ (o : Option PlainCommand). RunsAs o (plain_entries c.replay-ended.new.kept.entries)) (sym is)
    (file_runs _ _ _ _ _ _ c.args.kept.now.entries _ _ _ _ _ c.requires.empty c.replay-ended.ensures.file)

pub returns-in-Generate-clause-command : goal.returns-in-Generate-clause-command
returns-in-Generate-clause-command g c =
    let e = c.generate-ended.ensures in
    let n = c.in-Generate.number in
    let is : Some (plain_command c.args.command) ≡ Some (generates n) = search rules in
    command_as _ _ _ _ _ _ _ _ is (record {
      ended = c.generate-ended.result;
      status_is = c.status_of_script.ensures;
      line = c.tell_script.ensures;
      ends = subst (λ (l : Limits). WriteEnds (start_within 4096 l) c.generate-ended.result (entered (fresh_world 4096 l) (script_of n)) (g.S.Sink.words c.args.output.now).taken (g.S.Sink.words c.generate-ended.new.output).taken)
          c.usual_limits.ensures e.ends;
      write = e.fault;
      kept = refl;
      others = (refl, refl, refl, refl);
    })

pub follow-ended-requires-clause-may : goal.follow-ended-requires-clause-may
follow-ended-requires-clause-may g c =
    let f = c.in-Follow in
    let is : Some (plain_command c.args.command) ≡ Some (follows_buffer f.address.now f.buffer) = search rules in
    c.requires.dial f.address.now f.buffer is

pub returns-in-Follow-clause-command : goal.returns-in-Follow-clause-command
returns-in-Follow-clause-command g c =
    let f = c.in-Follow in
    let e = c.follow-ended.ensures in
    let is : Some (plain_command c.args.command) ≡ Some (follows_buffer f.address.now f.buffer) = search rules in
    command_as _ _ _ _ _ _ _ _ is (record {
      ended = c.follow-ended.result;
      status_is = c.status_of_follow.ensures;
      line = c.tell_follow.ensures;
      leaves = e.leaves;
      write = e.write;
      kept = refl;
      others = (refl, refl, refl);
    })

pub returns-in-Show-clause-command : goal.returns-in-Show-clause-command
returns-in-Show-clause-command g c =
    let e = c.show-ended.ensures in
    let is : Some (plain_command c.args.command) ≡ Some (shows c.in-Show.notice) = search rules in
    command_as _ _ _ _ _ _ _ _ is (record {
      ended = c.show-ended.result;
      status_is = c.status_of_script-in-Show.ensures;
      line = c.tell_script-in-Show.ensures;
      text = e.writes;
      write = e.write;
      kept = refl;
      others = (refl, refl, refl, refl);
    })
