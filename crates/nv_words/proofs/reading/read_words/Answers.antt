use Rattle.std.proofs.Common.{map}
use Rattle.clap.specs.Words.{fault_of, subcommand_of}
use Rattle.nv_words.specs.Commands.{command_of_rows, program_app}
use Rattle.nv_words.proofs.Faults.{program_single}
use Rattle.nv_words.proofs.Notices.{shown_asked, shown_taken, unanswered}
use Rattle.nv_words.proofs.reading.read_words.Goals as goal

pub returns-in-Err-clause-taken : goal.returns-in-Err-clause-taken
returns-in-Err-clause-taken c =
    let words = map (λ word. word.now) c.args.words.now in
    shown_taken (fault_of program_app words) c.in-Err.kind (program_single words) c.in-Err.ensures.kind c.answer_of.result c.answer_of.ensures.command

pub returns-in-Err-clause-command : goal.returns-in-Err-clause-command
returns-in-Err-clause-command c =
    let words = map (λ word. word.now) c.args.words.now in
    shown_asked (fault_of program_app words) c.in-Err.kind (program_single words) c.in-Err.ensures.kind c.answer_of.result (command_of_rows (subcommand_of program_app words))
    c.answer_of.ensures.command

pub returns-in-Err-clause-refused : goal.returns-in-Err-clause-refused
returns-in-Err-clause-refused c = λ bad taken.
    let words = map (λ word. word.now) c.args.words.now in
    let other = c.answer_of.ensures.refused bad in
    unanswered (fault_of program_app words) c.in-Err.kind c.in-Err.ensures.kind other.0 other.1 taken
