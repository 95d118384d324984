use Rattle.std.proofs.Common.{◌≤◌, ◌∙◌, List, ap, sym, subst, arith}
use Rattle.nv_undo.specs.Tree.{last, path}
use Rattle.nv_undo.specs.Ways.{Leads}
use Rattle.nv_undo.specs.declared.legs.Leg.{Leg}
use Rattle.nv_undo.proofs.WayLemmas.{path_leads}
use Rattle.nv_buffer.specs.Content.{Content}
use Rattle.nv_buffer.specs.Steps.{IsBuffer}
use Rattle.nv_buffer.proofs.TreeAhead.{last-ahead, path-ahead}
use Rattle.nv_buffer.proofs.buffer.Buffer.legs_to.Goals as goal

pub unreachable-requires : goal.unreachable-requires
unreachable-requires c =
    let found = rw c.in-None.is at c.in_ok-legs.ensures in
    let within = subst (λ (b : Content). c.args.n ≤ last b.undo) (sym c.self.view_is) c.requires in
    omega (arith, found, within, last-ahead c.self.inside.tree)

pub returns-clause-path : goal.returns-clause-path
returns-clause-path c =
    let found = rw c.in-Some.is at c.in_ok-legs.ensures in
    found.1
    ∙ sym (path-ahead c.self.inside.tree c.self.inside.tree.current c.args.n)
    ∙ ap (λ (b : Content). path b.undo b.undo.current c.args.n) c.self.view_is

pub returns-clause-way : goal.returns-clause-way
returns-clause-way c =
    let found = rw c.in-Some.is at c.in_ok-legs.ensures in
    let legs =
    found.1
    ∙ sym (path-ahead c.self.inside.tree c.self.inside.tree.current c.args.n)
    ∙ ap (λ (b : Content). path b.undo b.undo.current c.args.n) c.self.view_is in
    let is = subst (λ (b : Content). IsBuffer b.text b.tick b.undo b.unsealed) c.self.view_is c.self.invariant.3 in
    let undo = c.args.self.now.undo in
    subst (λ (ls : List Leg). Leads undo undo.current ls c.args.n) (sym legs) (path_leads undo undo.current c.args.n is.tree is.tree.within c.requires)
