use Rattle.std.proofs.Common.{◌≡◌, ℕ, List, map, Option, Some, Err, refl, ap, sym, subst, inl, inr, ⊎_elim, ◌∙◌}
use Rattle.std.proofs.lemmas.Option.{none-some}
use Rattle.nv_io.specs.Streams.{Tells}
use Rattle.nv_words.specs.Commands.{AreWords, PlainCommand, command_asked, plain_command}
use Rattle.nv_words.specs.declared.command.Refusal.{Refusal}
use Rattle.nv_words.specs.declared.command.Refusal.TheVariants as refusal
use Rattle.nv_core.specs.Contents.{plain_entries}
use Rattle.nv_run.specs.Commands.{RunsAs}
use Rattle.nv_run.specs.Statuses.{line_of_refusal}
use Rattle.nv_run.proofs.Asked.{command_as, either_refusal, is_memory, none_done}
use Rattle.nv_run.proofs.Books.{none_runs}
use Rattle.nv_run.proofs.Following.{kept_folded, marks_in_place, shown}
use Rattle.nv_run.proofs.command.run.Goals as goal

pub perform-requires-clause-may : goal.perform-requires-clause-may
perform-requires-clause-may g c = λ κs out address sessions outbox book is. c.requires.may address sessions outbox book (c.in-Ok.ensures.command ∙ is)

pub perform-requires-clause-open : goal.perform-requires-clause-open
perform-requires-clause-open g c = λ κs out. (
  λ address sessions outbox name is. c.requires.open.0 address sessions outbox name (c.in-Ok.ensures.command ∙ is),
  λ name check is. c.requires.open.1 name check (c.in-Ok.ensures.command ∙ is),
)

pub perform-requires-clause-dial : goal.perform-requires-clause-dial
perform-requires-clause-dial g c = λ κs out address buffer is. c.requires.dial address buffer (c.in-Ok.ensures.command ∙ is)

pub returns-in-Ok : goal.returns-in-Ok
returns-in-Ok g c =
    let asked = command_asked (map (λ word. word.now) c.args.words.now) in
    let entries = plain_entries c.perform.new.kept.entries in
    let is : asked ≡ Some (plain_command c.in-Ok.command) = c.in-Ok.ensures.command in
    let done = c.perform.ensures in
    record {
      taken = λ two words. done.other two;
      refused = λ no. absurd (⊎_elim (λ bad. bad c.in-Ok.ensures.taken) (λ none. none-some (plain_command c.in-Ok.command) (sym none ∙ is)) no);
      command = λ words. command_as _ _ _ _ _ _ asked (Some (plain_command c.in-Ok.command)) is done.command;
      back = record { sources = done.back.0; sinks = done.back.1; halves = done.back.2 };
      runs = subst (λ (o : Option PlainCommand). RunsAs o entries) (sym is) done.runs;
      folds = λ start. kept_folded c.fold_law.ensures.folds start entries;
      screens = λ start. shown c.screen_law.ensures.folds start entries;
      marks = λ start. marks_in_place c.mark_law.ensures start entries;
    }

pub returns-in-Err : goal.returns-in-Err
returns-in-Err g c =
    let words = map (λ word. word.now) c.args.words.now in
    let entries = plain_entries c.args.kept.now.entries in
    let memory : AreWords words → c.in-Err.refusal ≡ refusal.NoMemory = λ are. is_memory c.in-Err.refusal (λ e. c.in-Err.ensures.refused (ap (λ (r : Refusal). Err r) e) are) in
    let one : AreWords words → c.refuse.result ≡ 1 = λ are. c.refuse.ensures.memory (memory are) in
    record {
      taken = λ two are. cc (two, one are);
      refused = λ no. record {
        status_is = either_refusal c.in-Err.refusal c.refuse.result c.refuse.ensures.memory c.refuse.ensures.bad;
        line = c.refuse.ensures.line;
        kept = refl;
        others = (refl, refl, refl, refl, refl);
      };
      command = λ are. none_done _ _ _ _ _ _ (command_asked words) (one are)
          (subst (λ (status : ℕ). Tells (line_of_refusal status) (g.E.Sink.words c.args.errors.now) (g.E.Sink.words c.refuse.new.errors)) (one are) c.refuse.ensures.line) c.requires.empty;
      back = record { sources = refl; sinks = refl; halves = refl };
      runs = none_runs (command_asked words) c.args.kept.now.entries c.requires.empty;
      folds = λ start. kept_folded c.fold_law.ensures.folds start entries;
      screens = λ start. shown c.screen_law.ensures.folds start entries;
      marks = λ start. marks_in_place c.mark_law.ensures start entries;
    }
