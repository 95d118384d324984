-- The entries so far, and those of the rounds to come, are all.
use Rattle.std.proofs.Common.{◌≡◌, ◌++◌, ◌+◌, ◌-◌}
use Rattle.nv_core.specs.Contents.{plain_entries}
use Rattle.nv_gen.specs.Story.{turns_from, questions_in}
use Rattle.nv_gen.proofs.scripts.push_rounds.Given as goal

abbrev pub invariant-loop-done : goal.invariant-loop-done
invariant-loop-done l =
    plain_entries l.entries.items ++ turns_from (4 + l.done) (questions_in (l.rounds - l.done) l.draws.number)
    ≡ plain_entries l.fn.entries.items ++ turns_from 4 (questions_in l.rounds l.seed)
