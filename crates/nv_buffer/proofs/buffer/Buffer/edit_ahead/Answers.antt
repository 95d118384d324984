use Rattle.std.proofs.Common.{◌≡◌, ◌<◌, List, [], ℕ, Option, Some, length, unwrap_or, slice_get, ap, sym, subst, ◌∙◌, arith}
use Rattle.nv_undo.specs.Tree.{change_of}
use Rattle.nv_undo.specs.declared.legs.Leg.TheVariants.{Ahead}
use Rattle.nv_buffer.specs.Changes.{edits_of}
use Rattle.nv_buffer.specs.Content.{Content, IsAlong}
use Rattle.nv_buffer.specs.Steps.{tree_ahead, edits_since}
use Rattle.nv_buffer.proofs.Keeping.{text_of_buffer}
use Rattle.nv_buffer.specs.declared.step.Step.{Step}
use Rattle.nv_buffer.proofs.TreeAhead.{count-ahead}
use Rattle.nv_buffer.proofs.LeadingBack.{ahead_there, edit_told, steps_within}
use Rattle.nv_buffer.proofs.buffer.Buffer.edit_ahead.Goals as goal

pub step-requires : goal.step-requires
step-requires c =
    steps_within c.self.inside.tree c.args.n c.args.place c.in-Some.change.now (sym c.in-Some.ensures.change)
    (subst (λ (b : Content). c.args.place < length (edits_of b.undo c.args.n)) (sym c.self.view_is) c.requires.place)

pub unreachable-requires : goal.unreachable-requires
unreachable-requires c =
    let tree = c.self.inside.tree in
    let within : c.args.place < length (edits_of (tree_ahead tree) c.args.n) =
    subst (λ (b : Content). c.args.place < length (edits_of b.undo c.args.n)) (sym c.self.view_is) c.requires.place in
    let none : 0 ≡ length (unwrap_or (change_of tree c.args.n) []) =
    ap (λ (o : Option (List Step)). length (unwrap_or o [])) c.in-None.ensures.change in
    omega (arith, within, none, count-ahead tree c.args.n)

pub ahead-requires-clause-text : goal.ahead-requires-clause-text
ahead-requires-clause-text c =
    let inside = c.self.inside in
    text_of_buffer inside.text inside.tick (tree_ahead inside.tree) (edits_since inside.tree inside.unsealed.items) c.self.invariant.3

pub ahead-requires-clause-kept : goal.ahead-requires-clause-kept
ahead-requires-clause-kept c =
    let inside = c.self.inside in
    let along = subst (λ (b : Content). IsAlong b (Ahead c.args.n) c.args.place) (sym c.self.view_is) c.requires.text in
    (ahead_there inside.text inside.tick inside.tree inside.unsealed.items c.args.n c.args.place c.in-Some.change.now c.step.result.now
    c.self.invariant.3 c.self.invariant.4 (sym c.in-Some.ensures.change) c.step.ensures along).1

pub returns : goal.returns
returns c =
    let inside = c.self.inside in
    let along = subst (λ (b : Content). IsAlong b (Ahead c.args.n) c.args.place) (sym c.self.view_is) c.requires.text in
    let found =
    ahead_there inside.text inside.tick inside.tree inside.unsealed.items c.args.n c.args.place c.in-Some.change.now c.step.result.now
    c.self.invariant.3 c.self.invariant.4 (sym c.in-Some.ensures.change) c.step.ensures along in
    edit_told c.ahead.result (edits_of (tree_ahead inside.tree) c.args.n) (edits_of c.args.self.now.undo c.args.n) c.args.place _
    (ap (λ (b : Content). edits_of b.undo c.args.n) c.self.view_is) found.0 c.ahead.ensures
