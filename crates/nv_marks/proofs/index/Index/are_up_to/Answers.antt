use Rattle.std.proofs.Common.{◌∙◌, ◌≤◌, ap, arith, ℕ, List}
use Rattle.std.proofs.lemmas.Bool.{leb-true}
use Rattle.std.specs.declared.cmp.Reverse.{Reverse}
use Rattle.nv_marks.specs.inside.Names.{is_indexed}
use Rattle.nv_marks.proofs.IndexLemmas.{none_behind}
use Rattle.nv_marks.proofs.index.Index.are_up_to.Goals as goal

pub returns-in-Some : goal.returns-in-Some
returns-in-Some c = λ upto n i has.
    let last = none_behind c.self.inside.homes c.in-Some.name.now c.in-Some.ensures.greatest n i
    (ap (λ (l : List (ℕ × Reverse ℕ)). is_indexed l n i) c.self.view_is ∙ has) in
    let test : c.in-Some.name.now.0 ≤ c.args.ns = leb-true c.in-Some.name.now.0 c.args.ns upto in
    omega (arith, test, last)
