use Rattle.std.proofs.Common.{◌≡◌, ℤ, ◌≤◌, ◌∙◌, List, [], Some, true, ap, length, slice_get, sym, subst, arith, rules, to_z, of_z, w64}
use Rattle.nv_undo.specs.Tree.{Undo}
use Rattle.nv_undo.specs.Ways.{IsNext}
use Rattle.nv_buffer.specs.Changes.{leg_edits}
use Rattle.nv_buffer.specs.declared.edit.Edit.{Edit}
use Rattle.nv_editor.specs.Sound.{content_at, is_live_buffer}
use Rattle.nv_editor.specs.inside.Walks.{IsLegMade}
use Rattle.nv_editor.proofs.Going.{making_first, making_along, making_fits, making_edit, making_on, made_next, made_text, made_leg, made_facts}
use Rattle.nv_editor.proofs.editor.Editor.go.Goals as goal

pub loop-place-init : goal.loop-place-init
loop-place-init c =
    let e : to_z w64 (of_z w64 c.args.buffer) ≡ c.args.buffer = search rules in
    let n : ℤ = to_z w64 (of_z w64 c.args.buffer) in
    let closed : (content_at c.args.self.now n).unsealed ≡ [] = subst (λ (k : ℤ). (content_at c.args.self.now k).unsealed ≡ []) (sym e) c.requires.closed in
    let next : IsNext (content_at c.args.self.now n).undo c.args.leg =
    subst (λ (k : ℤ). IsNext (content_at c.args.self.now k).undo c.args.leg) (sym e) c.requires.next in
    let live = subst (λ (k : ℤ). is_live_buffer c.args.self.now k ≡ true) (sym e) c.requires.live in
    making_first n c.args.leg c.args.self.now c.args.happened.now live (c.leg_len-place-end.ensures.known, closed) c.leg_len-place-end.ensures.edits next

pub leg_edit-requires-clause-text : goal.leg_edit-requires-clause-text
leg_edit-requires-clause-text c =
    let e : to_z w64 (of_z w64 c.args.buffer) ≡ c.args.buffer = search rules in
    let n : ℤ = to_z w64 (of_z w64 c.args.buffer) in
    let closed : (content_at c.args.self.now n).unsealed ≡ [] = subst (λ (k : ℤ). (content_at c.args.self.now k).unsealed ≡ []) (sym e) c.requires.closed in
    let next : IsNext (content_at c.args.self.now n).undo c.args.leg =
    subst (λ (k : ℤ). IsNext (content_at c.args.self.now k).undo c.args.leg) (sym e) c.requires.next in
    making_along n c.args.leg c.args.self.now c.loop-place.self c.args.happened.now c.loop-place.happened c.loop-place.place c.loop-place.invariant
    (c.leg_len-place-end.ensures.known, closed) next

pub make_edit-requires-clause-fits : goal.make_edit-requires-clause-fits
make_edit-requires-clause-fits c =
    let e : to_z w64 (of_z w64 c.args.buffer) ≡ c.args.buffer = search rules in
    let n : ℤ = to_z w64 (of_z w64 c.args.buffer) in
    let here : slice_get (leg_edits (content_at c.args.self.now n).undo c.args.leg) c.loop-place.place ≡ Some c.in_ok-edit.edit =
    ap (λ (u : Undo (List Edit)). slice_get (leg_edits u c.args.leg) c.loop-place.place) (sym c.loop-place.invariant.going.undo) ∙ c.in_ok-edit.ensures.edit in
    making_fits n c.args.leg c.args.self.now c.loop-place.self c.args.happened.now c.loop-place.happened c.loop-place.place c.loop-place.invariant c.in_ok-edit.edit here

pub make_edit-requires-clause-edit : goal.make_edit-requires-clause-edit
make_edit-requires-clause-edit c =
    let e : to_z w64 (of_z w64 c.args.buffer) ≡ c.args.buffer = search rules in
    let n : ℤ = to_z w64 (of_z w64 c.args.buffer) in
    let here : slice_get (leg_edits (content_at c.args.self.now n).undo c.args.leg) c.loop-place.place ≡ Some c.in_ok-edit.edit =
    ap (λ (u : Undo (List Edit)). slice_get (leg_edits u c.args.leg) c.loop-place.place) (sym c.loop-place.invariant.going.undo) ∙ c.in_ok-edit.ensures.edit in
    making_edit n c.args.leg c.args.self.now c.loop-place.self c.args.happened.now c.loop-place.happened c.loop-place.place c.loop-place.invariant c.in_ok-edit.edit here

pub loop-place-preserved : goal.loop-place-preserved
loop-place-preserved c =
    let e : to_z w64 (of_z w64 c.args.buffer) ≡ c.args.buffer = search rules in
    let n : ℤ = to_z w64 (of_z w64 c.args.buffer) in
    let here : slice_get (leg_edits (content_at c.args.self.now n).undo c.args.leg) c.loop-place.place ≡ Some c.in_ok-edit.edit =
    ap (λ (u : Undo (List Edit)). slice_get (leg_edits u c.args.leg) c.loop-place.place) (sym c.loop-place.invariant.going.undo) ∙ c.in_ok-edit.ensures.edit in
    making_on n c.args.leg c.args.self.now c.loop-place.self c.args.happened.now c.loop-place.happened c.loop-place.place c.loop-place.invariant c.make_edit.new.self c.make_edit.new.happened
    c.in_ok-edit.edit here c.in_ok-make_edit.ensures.made c.in_ok-make_edit.ensures.told

pub arrive-requires-clause-next : goal.arrive-requires-clause-next
arrive-requires-clause-next c =
    let e : to_z w64 (of_z w64 c.args.buffer) ≡ c.args.buffer = search rules in
    let n : ℤ = to_z w64 (of_z w64 c.args.buffer) in
    let closed : (content_at c.args.self.now n).unsealed ≡ [] = subst (λ (k : ℤ). (content_at c.args.self.now k).unsealed ≡ []) (sym e) c.requires.closed in
    let next : IsNext (content_at c.args.self.now n).undo c.args.leg =
    subst (λ (k : ℤ). IsNext (content_at c.args.self.now k).undo c.args.leg) (sym e) c.requires.next in
    let end : length (leg_edits (content_at c.args.self.now n).undo c.args.leg) ≤ c.loop-place.place =
    omega (arith, c.leg_len-place-end.ensures.len, c.loop-place-test.false) in
    made_next n c.args.leg c.args.self.now c.loop-place.self c.args.happened.now c.loop-place.happened c.loop-place.place c.loop-place.invariant (c.leg_len-place-end.ensures.known, closed) next end

pub arrive-requires-clause-text : goal.arrive-requires-clause-text
arrive-requires-clause-text c =
    let e : to_z w64 (of_z w64 c.args.buffer) ≡ c.args.buffer = search rules in
    let n : ℤ = to_z w64 (of_z w64 c.args.buffer) in
    let closed : (content_at c.args.self.now n).unsealed ≡ [] = subst (λ (k : ℤ). (content_at c.args.self.now k).unsealed ≡ []) (sym e) c.requires.closed in
    let next : IsNext (content_at c.args.self.now n).undo c.args.leg =
    subst (λ (k : ℤ). IsNext (content_at c.args.self.now k).undo c.args.leg) (sym e) c.requires.next in
    let end : length (leg_edits (content_at c.args.self.now n).undo c.args.leg) ≤ c.loop-place.place =
    omega (arith, c.leg_len-place-end.ensures.len, c.loop-place-test.false) in
    made_text n c.args.leg c.args.self.now c.loop-place.self c.args.happened.now c.loop-place.happened c.loop-place.place c.loop-place.invariant (c.leg_len-place-end.ensures.known, closed) next end

pub returns-clause-gone : goal.returns-clause-gone
returns-clause-gone c =
    let e : to_z w64 (of_z w64 c.args.buffer) ≡ c.args.buffer = search rules in
    let n : ℤ = to_z w64 (of_z w64 c.args.buffer) in
    let closed : (content_at c.args.self.now n).unsealed ≡ [] = subst (λ (k : ℤ). (content_at c.args.self.now k).unsealed ≡ []) (sym e) c.requires.closed in
    let next : IsNext (content_at c.args.self.now n).undo c.args.leg =
    subst (λ (k : ℤ). IsNext (content_at c.args.self.now k).undo c.args.leg) (sym e) c.requires.next in
    let end : length (leg_edits (content_at c.args.self.now n).undo c.args.leg) ≤ c.loop-place.place =
    omega (arith, c.leg_len-place-end.ensures.len, c.loop-place-test.false) in
    subst (λ (k : ℤ). IsLegMade k c.args.leg c.args.self.now c.arrive.new.self) e
    (made_leg n c.args.leg c.args.self.now c.loop-place.self c.args.happened.now c.loop-place.happened c.loop-place.place c.loop-place.invariant (c.leg_len-place-end.ensures.known, closed) next end c.arrive.new.self c.arrive.ensures)
