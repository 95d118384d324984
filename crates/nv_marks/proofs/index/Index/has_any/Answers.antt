use Rattle.std.proofs.Common.{◌∙◌, ap, sym, ℕ, List}
use Rattle.std.specs.declared.cmp.Reverse.{Reverse}
use Rattle.nv_marks.specs.inside.Names.{is_indexed}
use Rattle.nv_marks.proofs.IndexLemmas.{last_other, none_up_to}
use Rattle.nv_marks.proofs.index.Index.has_any.Goals as goal

pub returns-in-Some : goal.returns-in-Some
returns-in-Some c = λ other id.
    sym (ap (λ (l : List (ℕ × Reverse ℕ)). is_indexed l c.args.ns id) c.self.view_is)
    ∙ last_other c.self.inside.homes c.args.ns c.in-Some.name.now other ((c.range.ensures.in_range tt).3 _ _ c.in-Some.ensures.steps).0.1
    (λ q upto some. (c.range.ensures.in_range tt).4 _ _ c.in-Some.ensures.steps q (tt, upto) some) id

pub returns-in-None : goal.returns-in-None
returns-in-None c = λ is id.
    sym (ap (λ (l : List (ℕ × Reverse ℕ)). is_indexed l c.args.ns id) c.self.view_is)
    ∙ none_up_to c.self.inside.homes c.args.ns (λ q upto. (c.range.ensures.in_range tt).5 c.in-None.ensures.steps.0 q (tt, upto)) id
