use Rattle.std.proofs.Common.{◌≡◌, List, [], length, refl, ap, ◌∙◌, arith}
use Rattle.std.proofs.lemmas.Bool.Decides.{nat_tests}
use Rattle.nv_undo.specs.Tree.{pushed}
use Rattle.nv_buffer.specs.declared.step.Step.{Step}
use Rattle.nv_buffer.proofs.TreeAhead.{tree-behind, sealed_seen}
use Rattle.nv_buffer.proofs.LeadingBack.{sealed_stands}
use Rattle.nv_buffer.proofs.buffer.Buffer.seal.Goals as goal

pub invariant_of-self : goal.invariant_of-self
invariant_of-self c =
    let steps = c.from_vec.ensures ∙ ap (λ v. v.items) c.replace-steps.ensures.value in
    let none = ap (λ v. v.items) c.replace-steps.ensures.after ∙ c.new.ensures.items in
    let made =
    sealed_stands c.self.inside.text c.self.inside.tick c.self.inside.tree c.push.new.self c.self.inside.unsealed.items c.from_vec.result
    c.replace-steps.new.dest.items c.self.invariant.3 c.self.invariant.4 (tree-behind c.self.inside.tree c.self.invariant.3.tree) steps c.in-Ok.ensures.ok none in
    (c.self.invariant.0, c.self.invariant.1, c.self.invariant.2, made.buffer, made.lead, c.self.invariant.5)

pub returns-in-Ok-clause-ok : goal.returns-in-Ok-clause-ok
returns-in-Ok-clause-ok c =
    let inside = c.self.inside in
    let steps = c.from_vec.ensures ∙ ap (λ v. v.items) c.replace-steps.ensures.value in
    let none = ap (λ v. v.items) c.replace-steps.ensures.after ∙ c.new.ensures.items in
    let moved = c.in-Ok.ensures.ok ∙ ap (λ (ss : List Step). pushed ss inside.tree) steps in
    let some : inside.unsealed.items ≡ [] → ⊥ = λ empty. (let count = ap length empty in grind (arith, nat_tests, count)) in
    sealed_seen _ c.args.self.now inside.tree c.push.new.self inside.unsealed.items c.replace-steps.new.dest.items c.self.view_is refl refl some moved none
