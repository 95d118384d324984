-- The lines so far, and those to come, are all.
use Rattle.std.proofs.Common.{◌≡◌, ◌++◌, ◌-◌, map}
use Rattle.nv_value.specs.Content.{text}
use Rattle.nv_value.specs.View.{content}
use Rattle.nv_gen.specs.Draws.{several}
use Rattle.nv_gen.specs.Questions.{drawn_line}
use Rattle.nv_gen.proofs.rounds.lines.Given as goal

abbrev pub invariant-loop : goal.invariant-loop
invariant-loop l =
    (map content l.lines.items ++ map text (several (l.count - l.counter) drawn_line l.draws.number).0
    ≡ map text (several l.count drawn_line l.fn.draws.number).0)
    × ((several (l.count - l.counter) drawn_line l.draws.number).1
    ≡ (several l.count drawn_line l.fn.draws.number).1)
