use Rattle.std.proofs.Common.{rules, ◌≡◌, refl, ap, sym, ◌∙◌, ℕ, ◌-◌, ◌++◌, [], ◌∷◌, map}
use Rattle.std.proofs.lemmas.List.{map-append, append-nil}
use Rattle.nv_value.specs.Content.{Tree, text, trees_of}
use Rattle.nv_value.specs.View.{content}
use Rattle.nv_value.proofs.Contents.{content-Text}
use Rattle.nv_gen.specs.Draws.{several}
use Rattle.nv_gen.specs.Questions.{drawn_line}
use Rattle.nv_gen.proofs.Steps.{more_drawn, still_later, strings_are}
use Rattle.nv_gen.proofs.rounds.lines.Goals as goal

pub loop-preserved : goal.loop-preserved
loop-preserved c =
    let below = c.loop-test.true in
    let pushed : map content c.push.new.self.items ≡ map content c.loop.lines.items ++ text (drawn_line c.loop.draws.number).0 ∷ [] =
    ap (map content) c.in_ok-push.ensures.items ∙ map-append content c.loop.lines.items _
    ∙ ap (λ (t : Tree). map content c.loop.lines.items ++ t ∷ []) (content-Text c.in_ok-line.field-0 ∙ ap text c.in_ok-line.ensures.drawn) in (
      more_drawn drawn_line text (map text) _ _ _ _ _ _ _ (λ a others. refl) below pushed c.in_ok-line.ensures.later c.loop.invariant.0,
      still_later drawn_line _ _ _ _ _ below c.in_ok-line.ensures.later c.loop.invariant.1,
    )

pub returns-clause-drawn : goal.returns-clause-drawn
returns-clause-drawn c =
    ap trees_of (sym (append-nil (map content c.loop.lines.items))
    ∙ ap (λ (m : ℕ). map content c.loop.lines.items ++ map text (several m drawn_line c.loop.draws.number).0) none
    ∙ c.loop.invariant.0)
    ∙ sym (strings_are _)
  where
    none : 0 ≡ c.args.count - c.loop.counter
    none = search rules
