use Rattle.std.proofs.Common.{◌++◌, List, ℕ, get_or, ap, sym, ◌∙◌, arith}
use Rattle.std.proofs.lemmas.List.{take_all}
use Rattle.nv_lines.specs.Excerpts.{list_lines}
use Rattle.nv_lines.proofs.ListLines.{list_lines-take}
use Rattle.nv_lines.proofs.excerpt.Excerpt.share.Goals as goal

pub loop-list-preserved : goal.loop-list-preserved
loop-list-preserved c =
    let at = c.loop-list in
    let lists : List (List (List ℕ)) = c.deref-list-items.result.now in
    let one : List (List ℕ) = get_or lists at.list-index c.list-item.result in
    c.in_ok-push.ensures.ok
    ∙ ap (λ (l : List (List ℕ)). at.excerpt ++ l) (c.in_ok-share.ensures ∙ c.list-item.is)
    ∙ ap (λ (l : List (List ℕ)). l ++ one) at.invariant
    ∙ sym (list_lines-take lists at.list-index c.list-item.result (omega arith))

pub returns : goal.returns
returns c =
    c.loop-list.invariant
    ∙ ap list_lines (take_all c.loop-list.list-index c.deref-list-items.result.now (omega arith) ∙ c.deref-list-items.ensures.value)
    ∙ c.self.view_is
