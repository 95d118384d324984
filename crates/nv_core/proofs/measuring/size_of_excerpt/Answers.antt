use Rattle.std.proofs.Common.{List, ℕ, ap, sym, ◌∙◌}
use Rattle.nv_value.specs.Content.{Trees}
use Rattle.nv_args.specs.Texts.{strings}
use Rattle.nv_core.specs.Sizes.{memory_with}
use Rattle.nv_core.proofs.Strings.{trees_of-text}
use Rattle.nv_core.proofs.measuring.size_of_excerpt.Goals as goal

pub returns : goal.returns
returns c =
    c.size_of_lists.ensures.size
    ∙ ap (λ (l : List (List ℕ)). memory_with (strings l) 32) c.lists.ensures
    ∙ ap (λ (ts : Trees). memory_with ts 32) (sym (trees_of-text c.args.excerpt.now))
