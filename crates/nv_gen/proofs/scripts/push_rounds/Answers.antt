use Rattle.std.proofs.Common.{rules, ◌≡◌, ◌-◌}
use Rattle.nv_gen.proofs.Stories.{round_told, rounds_end}
use Rattle.nv_gen.proofs.scripts.push_rounds.Goals as goal

pub loop-done-preserved : goal.loop-done-preserved
loop-done-preserved c =
    round_told _ _ _ _ _ _ _ _ c.loop-done-test.true c.in_ok-asked.ensures.drawn c.in_ok-asked.ensures.later c.in_ok-turn.ensures c.loop-done.invariant

pub returns : goal.returns
returns c =
    let none : c.args.rounds - c.loop-done.done ≡ 0 = search rules in
    rounds_end _ _ _ _ _ none c.loop-done.invariant
