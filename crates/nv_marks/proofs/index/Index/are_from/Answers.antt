use Rattle.std.proofs.Common.{◌∙◌, ◌≤◌, ap, arith, ℕ, List}
use Rattle.std.proofs.lemmas.Bool.{leb-true}
use Rattle.std.specs.declared.cmp.Reverse.{Reverse}
use Rattle.nv_marks.specs.inside.Names.{is_indexed}
use Rattle.nv_marks.proofs.IndexLemmas.{none_before}
use Rattle.nv_marks.proofs.index.Index.are_from.Goals as goal

pub returns-in-Some : goal.returns-in-Some
returns-in-Some c = λ from n i has.
    let first = none_before c.self.inside.homes c.in-Some.name.now c.in-Some.ensures.least n i
    (ap (λ (l : List (ℕ × Reverse ℕ)). is_indexed l n i) c.self.view_is ∙ has) in
    let test : c.args.ns ≤ c.in-Some.name.now.0 = leb-true c.args.ns c.in-Some.name.now.0 from in
    omega (arith, test, first)
