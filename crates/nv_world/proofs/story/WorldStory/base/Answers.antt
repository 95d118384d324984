use Rattle.std.proofs.Common.{ℕ, ◌≤◌, length, sym, ◌∙◌, subst, arith}
use Rattle.nv_world.proofs.story.WorldStory.base.Goals as goal

pub returns : goal.returns
returns c = λ story stands.
    subst (λ (n : ℕ). n ≤ length story) (sym (c.base.ensures ∙ c.history.ensures.base)) (omega arith)
