use Rattle.std.proofs.Common.{◌≡◌, ◌<◌, ◌-◌, List, [], ℕ, Option, Some, length, unwrap_or, slice_get, ap, sym, subst, ◌∙◌, arith}
use Rattle.nv_undo.specs.Tree.{change_of}
use Rattle.nv_undo.specs.declared.legs.Leg.TheVariants.{Back}
use Rattle.nv_buffer.specs.Changes.{edits_of, leg_edits}
use Rattle.nv_buffer.specs.Content.{Content, IsAlong}
use Rattle.nv_buffer.specs.Steps.{tree_ahead, edits_since}
use Rattle.nv_buffer.proofs.Keeping.{text_of_buffer}
use Rattle.nv_buffer.specs.declared.step.Step.{Step}
use Rattle.nv_buffer.proofs.TreeAhead.{count-ahead}
use Rattle.nv_buffer.proofs.LeadingBack.{back_there, edit_told, steps_within}
use Rattle.nv_buffer.proofs.buffer.Buffer.edit_back.Goals as goal

pub overflow_sub-len : goal.overflow_sub-len
overflow_sub-len c =
    let within : c.args.place < length c.in-Some.change.now =
    steps_within c.self.inside.tree c.args.n c.args.place c.in-Some.change.now (sym c.in-Some.ensures.change)
    (subst (λ (b : Content). c.args.place < length (edits_of b.undo c.args.n)) (sym c.self.view_is) c.requires.place) in
    omega (arith, within, c.len.ensures)

pub overflow_sub-len-in-Some : goal.overflow_sub-len-in-Some
overflow_sub-len-in-Some c =
    let within : c.args.place < length c.in-Some.change.now =
    steps_within c.self.inside.tree c.args.n c.args.place c.in-Some.change.now (sym c.in-Some.ensures.change)
    (subst (λ (b : Content). c.args.place < length (edits_of b.undo c.args.n)) (sym c.self.view_is) c.requires.place) in
    omega (arith, within, c.len.ensures)

pub step-requires : goal.step-requires
step-requires c =
    let within : c.args.place < length c.in-Some.change.now =
    steps_within c.self.inside.tree c.args.n c.args.place c.in-Some.change.now (sym c.in-Some.ensures.change)
    (subst (λ (b : Content). c.args.place < length (edits_of b.undo c.args.n)) (sym c.self.view_is) c.requires.place) in
    omega (arith, within, c.len.ensures)

pub unreachable-requires : goal.unreachable-requires
unreachable-requires c =
    let tree = c.self.inside.tree in
    let within : c.args.place < length (edits_of (tree_ahead tree) c.args.n) =
    subst (λ (b : Content). c.args.place < length (edits_of b.undo c.args.n)) (sym c.self.view_is) c.requires.place in
    let none : 0 ≡ length (unwrap_or (change_of tree c.args.n) []) =
    ap (λ (o : Option (List Step)). length (unwrap_or o [])) c.in-None.ensures.change in
    omega (arith, within, none, count-ahead tree c.args.n)

pub back-requires-clause-text : goal.back-requires-clause-text
back-requires-clause-text c =
    let inside = c.self.inside in
    text_of_buffer inside.text inside.tick (tree_ahead inside.tree) (edits_since inside.tree inside.unsealed.items) c.self.invariant.3

pub back-requires-clause-made : goal.back-requires-clause-made
back-requires-clause-made c =
    let inside = c.self.inside in
    let along = subst (λ (b : Content). IsAlong b (Back c.args.n) c.args.place) (sym c.self.view_is) c.requires.text in
    let within =
    steps_within inside.tree c.args.n c.args.place c.in-Some.change.now (sym c.in-Some.ensures.change)
    (subst (λ (b : Content). c.args.place < length (edits_of b.undo c.args.n)) (sym c.self.view_is) c.requires.place) in
    let here = ap (λ (n : ℕ). slice_get c.in-Some.change.now (n - 1 - c.args.place)) (sym c.len.ensures) ∙ c.step.ensures in
    (back_there inside.text inside.tick inside.tree inside.unsealed.items c.args.n c.args.place c.in-Some.change.now c.step.result.now
    c.self.invariant.3 c.self.invariant.4 (sym c.in-Some.ensures.change) within here along).1

pub returns : goal.returns
returns c =
    let inside = c.self.inside in
    let along = subst (λ (b : Content). IsAlong b (Back c.args.n) c.args.place) (sym c.self.view_is) c.requires.text in
    let within =
    steps_within inside.tree c.args.n c.args.place c.in-Some.change.now (sym c.in-Some.ensures.change)
    (subst (λ (b : Content). c.args.place < length (edits_of b.undo c.args.n)) (sym c.self.view_is) c.requires.place) in
    let here = ap (λ (n : ℕ). slice_get c.in-Some.change.now (n - 1 - c.args.place)) (sym c.len.ensures) ∙ c.step.ensures in
    let found =
    back_there inside.text inside.tick inside.tree inside.unsealed.items c.args.n c.args.place c.in-Some.change.now c.step.result.now
    c.self.invariant.3 c.self.invariant.4 (sym c.in-Some.ensures.change) within here along in
    edit_told c.back.result (leg_edits (tree_ahead inside.tree) (Back c.args.n)) (leg_edits c.args.self.now.undo (Back c.args.n)) c.args.place _
    (ap (λ (b : Content). leg_edits b.undo (Back c.args.n)) c.self.view_is) found.0 c.back.ensures
