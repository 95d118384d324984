-- The letters so far, and those to come, are all.
use Rattle.std.proofs.Common.{◌≡◌, ◌++◌, ◌-◌}
use Rattle.nv_gen.specs.Draws.{several}
use Rattle.nv_gen.specs.Questions.{drawn_letter}
use Rattle.nv_gen.proofs.rounds.line.Given as goal

abbrev pub invariant-loop : goal.invariant-loop
invariant-loop l =
    (l.letters.items ++ (several (l.len - l.counter) drawn_letter l.draws.number).0
    ≡ (several l.len drawn_letter l.initial.draws.number).0)
    × ((several (l.len - l.counter) drawn_letter l.draws.number).1
    ≡ (several l.len drawn_letter l.initial.draws.number).1)
