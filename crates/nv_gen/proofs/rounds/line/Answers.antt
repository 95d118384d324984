use Rattle.std.proofs.Common.{rules, ◌≡◌, refl, ◌++◌, [], ◌∷◌}
use Rattle.nv_gen.specs.Questions.{drawn_letter}
use Rattle.nv_gen.proofs.Steps.{more_drawn, still_later}
use Rattle.nv_gen.proofs.rounds.line.Goals as goal

pub loop-preserved : goal.loop-preserved
loop-preserved c =
    let below = c.loop-test.true in
    let pushed : c.push.new.self.items ≡ c.loop.letters.items ++ (drawn_letter c.loop.draws.number).0 ∷ [] = search rules in (
      more_drawn drawn_letter (λ a. a) (λ others. others) _ _ _ _ _ _ _ (λ a others. refl) below pushed c.small.ensures.later c.loop.invariant.0,
      still_later drawn_letter _ _ _ _ _ below c.small.ensures.later c.loop.invariant.1,
    )
