use Rattle.std.proofs.Common.{◌≡◌, ◌∙◌, ℤ, ℕ, pos, ◌+ℤ◌, ◌≤◌, ◌≤ℤ◌, List, [], Some, None, length, sym, subst, arith, rules, to_z, of_z, w64}
use Rattle.nv_value.specs.Content.{nil}
use Rattle.nv_undo.specs.Tree.{last}
use Rattle.nv_undo.specs.Ways.{undo_legs}
use Rattle.nv_undo.specs.declared.legs.Leg.{Leg}
use Rattle.nv_model.specs.Answers.{replied, edits, undo_operations, undo_splices}
use Rattle.nv_model.specs.Seen.{sealed_undo}
use Rattle.nv_model.specs.Standing.{seen_buffer_now}
use Rattle.nv_editor.specs.Doing.{Replies}
use Rattle.nv_editor.specs.Sound.{content_at}
use Rattle.nv_editor.proofs.Undone.{undo_replies, undo_tick, undo_slice, back_none, back_one}
use Rattle.nv_buffer.proofs.Going.{way_to_parent}
use Rattle.nv_editor.proofs.editor.Editor.undo.Goals as goal

pub go_way-requires-in_default-clause-way : goal.go_way-requires-in_default-clause-way
go_way-requires-in_default-clause-way c =
    let n : ℤ = to_z w64 (of_z w64 c.args.buffer) in
    way_to_parent (content_at c.seal_buffer.new.self n).undo c.undone.result c.as_slice-in_default.result.now c.as_slice-in_default.ensures c.undone.ensures.value (omega arith) c.undone.ensures.within

pub go_way-requires-in_default-clause-tick : goal.go_way-requires-in_default-clause-tick
go_way-requires-in_default-clause-tick c =
    let e : to_z w64 (of_z w64 c.args.buffer) ≡ c.args.buffer = search rules in
    let n : ℤ = to_z w64 (of_z w64 c.args.buffer) in
    let within =
    subst (λ (k : ℤ).
    ((content_at c.args.self.now k).tick +ℤ pos (length (undo_splices (seen_buffer_now (content_at c.args.self.now k)) (undo_legs (sealed_undo (seen_buffer_now (content_at c.args.self.now k))))))) ≤ℤ _)
    (sym e) c.requires.tick in
    undo_tick n c.args.self.now c.seal_buffer.new.self c.seal_buffer.ensures.known c.in_ok-seal_buffer.ensures.sealed c.as_slice-in_default.result.now
    (undo_legs (sealed_undo (seen_buffer_now (content_at c.args.self.now n)))) _
    (undo_slice n c.args.self.now c.seal_buffer.new.self c.seal_buffer.ensures.known c.in_ok-seal_buffer.ensures.sealed c.as_slice-in_default.result.now (back_one (content_at c.seal_buffer.new.self n).undo c.as_slice-in_default.result.now c.undone.result c.as_slice-in_default.ensures c.undone.ensures.value (omega arith))) within

pub returns-in_ok-go_way-in-0 : goal.returns-in_ok-go_way-in-0
returns-in_ok-go_way-in-0 c =
    let e : to_z w64 (of_z w64 c.args.buffer) ≡ c.args.buffer = search rules in
    let n : ℤ = to_z w64 (of_z w64 c.args.buffer) in
    let same : c.as_slice.result.now ≡ undo_legs (sealed_undo (seen_buffer_now (content_at c.args.self.now n))) =
    undo_slice n c.args.self.now c.seal_buffer.new.self c.seal_buffer.ensures.known c.in_ok-seal_buffer.ensures.sealed c.as_slice.result.now (back_none (content_at c.seal_buffer.new.self n).undo c.as_slice.result.now c.as_slice.ensures (sym c.in-0.is ∙ c.undone.ensures.value)) in
    subst (λ (k : ℤ).
    Replies
    (replied nil
    (undo_operations k (seen_buffer_now (content_at c.args.self.now k)) (undo_legs (sealed_undo (seen_buffer_now (content_at c.args.self.now k)))))
    (edits k (seen_buffer_now (content_at c.args.self.now k))
    (undo_splices (seen_buffer_now (content_at c.args.self.now k)) (undo_legs (sealed_undo (seen_buffer_now (content_at c.args.self.now k)))))))
    nil c.args.self.now c.go_way.new.self c.args.happened.now c.go_way.new.happened) e
    (undo_replies n c.args.self.now c.seal_buffer.new.self c.go_way.new.self c.args.happened.now c.go_way.new.happened c.as_slice.result.now
    (undo_legs (sealed_undo (seen_buffer_now (content_at c.args.self.now n)))) c.seal_buffer.ensures.known c.in_ok-seal_buffer.ensures.sealed
    c.in_ok-go_way-in-0.ensures same)

pub returns-in_ok-go_way-in_default : goal.returns-in_ok-go_way-in_default
returns-in_ok-go_way-in_default c =
    let e : to_z w64 (of_z w64 c.args.buffer) ≡ c.args.buffer = search rules in
    let n : ℤ = to_z w64 (of_z w64 c.args.buffer) in
    let same : c.as_slice-in_default.result.now ≡ undo_legs (sealed_undo (seen_buffer_now (content_at c.args.self.now n))) =
    undo_slice n c.args.self.now c.seal_buffer.new.self c.seal_buffer.ensures.known c.in_ok-seal_buffer.ensures.sealed c.as_slice-in_default.result.now (back_one (content_at c.seal_buffer.new.self n).undo c.as_slice-in_default.result.now c.undone.result c.as_slice-in_default.ensures c.undone.ensures.value (omega arith)) in
    subst (λ (k : ℤ).
    Replies
    (replied nil
    (undo_operations k (seen_buffer_now (content_at c.args.self.now k)) (undo_legs (sealed_undo (seen_buffer_now (content_at c.args.self.now k)))))
    (edits k (seen_buffer_now (content_at c.args.self.now k))
    (undo_splices (seen_buffer_now (content_at c.args.self.now k)) (undo_legs (sealed_undo (seen_buffer_now (content_at c.args.self.now k)))))))
    nil c.args.self.now c.go_way-in_default.new.self c.args.happened.now c.go_way-in_default.new.happened) e
    (undo_replies n c.args.self.now c.seal_buffer.new.self c.go_way-in_default.new.self c.args.happened.now c.go_way-in_default.new.happened c.as_slice-in_default.result.now
    (undo_legs (sealed_undo (seen_buffer_now (content_at c.args.self.now n)))) c.seal_buffer.ensures.known c.in_ok-seal_buffer.ensures.sealed
    c.in_ok-go_way-in_default.ensures same)
