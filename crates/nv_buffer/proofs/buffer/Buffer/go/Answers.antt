use Rattle.std.proofs.Common.{List, slice_get, length, ap, sym, subst, ◌∙◌, arith}
use Rattle.nv_undo.specs.Tree.{Undo}
use Rattle.nv_buffer.specs.Changes.{leg_edits}
use Rattle.nv_undo.specs.Ways.{IsNext}
use Rattle.nv_buffer.specs.declared.edit.Edit.{Edit}
use Rattle.nv_buffer.proofs.Going.{going_first, going_along, going_fits, going_tick, going_on, going_last, gone_text, gone_state}
use Rattle.nv_buffer.proofs.buffer.Buffer.go.Goals as goal

pub loop-place-init : goal.loop-place-init
loop-place-init c =
    going_first c.args.self.now c.args.events.now.items c.args.leg (c.known.ensures.buffer, c.requires.sealed) c.requires.next

pub leg_edit-requires-clause-text : goal.leg_edit-requires-clause-text
leg_edit-requires-clause-text c =
    going_along c.args.self.now c.loop-place.self c.args.events.now.items c.loop-place.events.items c.args.leg c.loop-place.place
    (c.known.ensures.buffer, c.requires.sealed) c.requires.next c.loop-place.invariant

pub leg_edit-requires-clause-place : goal.leg_edit-requires-clause-place
leg_edit-requires-clause-place c =
    let same = ap (λ (u : Undo (List Edit)). length (leg_edits u c.args.leg)) c.loop-place.invariant.undo in
    omega (arith, same, c.leg_len-place-end.ensures, c.loop-place-test.true)

pub put_edit-requires-clause-fits : goal.put_edit-requires-clause-fits
put_edit-requires-clause-fits c =
    let here =
    ap (λ (u : Undo (List Edit)). slice_get (leg_edits u c.args.leg) c.loop-place.place) (sym c.loop-place.invariant.undo) ∙ c.in_ok-edit.ensures in
    going_fits c.args.self.now c.loop-place.self c.args.events.now.items c.loop-place.events.items (leg_edits c.args.self.now.undo c.args.leg)
    c.loop-place.place c.in_ok-edit.edit c.loop-place.invariant here

pub put_edit-requires-clause-tick : goal.put_edit-requires-clause-tick
put_edit-requires-clause-tick c =
    let here =
    ap (λ (u : Undo (List Edit)). slice_get (leg_edits u c.args.leg) c.loop-place.place) (sym c.loop-place.invariant.undo) ∙ c.in_ok-edit.ensures in
    going_tick c.args.self.now c.loop-place.self c.args.events.now.items c.loop-place.events.items (leg_edits c.args.self.now.undo c.args.leg)
    c.loop-place.place c.in_ok-edit.edit _ c.loop-place.invariant here c.requires.tick

pub loop-place-preserved : goal.loop-place-preserved
loop-place-preserved c =
    let here =
    ap (λ (u : Undo (List Edit)). slice_get (leg_edits u c.args.leg) c.loop-place.place) (sym c.loop-place.invariant.undo) ∙ c.in_ok-edit.ensures in
    going_on c.args.self.now c.loop-place.self c.put_edit.new.self c.args.events.now.items c.loop-place.events.items c.push.new.self.items
    (leg_edits c.args.self.now.undo c.args.leg) c.loop-place.place c.in_ok-edit.edit c.in_ok-event.event c.loop-place.invariant here
    c.in_ok-event.ensures.ok c.in_ok-event.ensures.told c.in_ok-push.ensures.items

pub arrive-requires-clause-next : goal.arrive-requires-clause-next
arrive-requires-clause-next c = subst (λ (u : Undo (List Edit)). IsNext u c.args.leg) (sym c.loop-place.invariant.undo) c.requires.next

pub arrive-requires-clause-text : goal.arrive-requires-clause-text
arrive-requires-clause-text c =
    let all =
    going_last c.args.self.now c.loop-place.self c.args.events.now.items c.loop-place.events.items (leg_edits c.args.self.now.undo c.args.leg)
    c.loop-place.place c.loop-place.invariant (omega (arith, c.leg_len-place-end.ensures, c.loop-place-test.false)) in
    gone_text c.args.self.now c.loop-place.self c.args.events.now.items c.loop-place.events.items c.args.leg
    (c.known.ensures.buffer, c.requires.sealed) c.requires.next all

pub returns-clause-state : goal.returns-clause-state
returns-clause-state c =
    let all =
    going_last c.args.self.now c.loop-place.self c.args.events.now.items c.loop-place.events.items (leg_edits c.args.self.now.undo c.args.leg)
    c.loop-place.place c.loop-place.invariant (omega (arith, c.leg_len-place-end.ensures, c.loop-place-test.false)) in
    gone_state c.args.self.now c.loop-place.self c.arrive.new.self c.args.events.now.items c.loop-place.events.items c.args.leg
    (c.known.ensures.buffer, c.requires.sealed) c.requires.next all c.arrive.ensures

pub returns-clause-told : goal.returns-clause-told
returns-clause-told c =
    (going_last c.args.self.now c.loop-place.self c.args.events.now.items c.loop-place.events.items (leg_edits c.args.self.now.undo c.args.leg)
    c.loop-place.place c.loop-place.invariant (omega (arith, c.leg_len-place-end.ensures, c.loop-place-test.false))).told
