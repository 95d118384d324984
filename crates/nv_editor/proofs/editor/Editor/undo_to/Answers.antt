use Rattle.std.proofs.Common.{◌≡◌, ◌∙◌, ℤ, ℕ, pos, ◌+ℤ◌, ◌≤◌, ◌≤ℤ◌, List, [], Some, None, length, sym, subst, arith, rules, to_z, of_z, w64}
use Rattle.nv_value.specs.Content.{nil}
use Rattle.nv_undo.specs.Tree.{last}
use Rattle.nv_undo.specs.Ways.{legs_to}
use Rattle.nv_undo.specs.declared.legs.Leg.{Leg}
use Rattle.nv_model.specs.Answers.{replied, edits, undo_operations, undo_splices}
use Rattle.nv_model.specs.Seen.{sealed_undo}
use Rattle.nv_model.specs.Standing.{seen_buffer_now}
use Rattle.nv_editor.specs.Doing.{Replies}
use Rattle.nv_editor.specs.Sound.{content_at}
use Rattle.nv_editor.proofs.Undone.{undo_replies, undo_tick, to_slice, within_sealed}
use Rattle.nv_editor.proofs.editor.Editor.undo_to.Goals as goal

pub legs_to-requires-clause-within : goal.legs_to-requires-clause-within
legs_to-requires-clause-within c =
    let e : to_z w64 (of_z w64 c.args.buffer) ≡ c.args.buffer = search rules in
    let n : ℤ = to_z w64 (of_z w64 c.args.buffer) in
    within_sealed n c.args.self.now c.seal_buffer.new.self c.seal_buffer.ensures.known c.in_ok-seal_buffer.ensures.sealed c.args.number
    (subst (λ (k : ℤ). c.args.number ≤ last (sealed_undo (seen_buffer_now (content_at c.args.self.now k)))) (sym e) c.requires.within)

pub go_way-requires-clause-tick : goal.go_way-requires-clause-tick
go_way-requires-clause-tick c =
    let e : to_z w64 (of_z w64 c.args.buffer) ≡ c.args.buffer = search rules in
    let n : ℤ = to_z w64 (of_z w64 c.args.buffer) in
    let within =
    subst (λ (k : ℤ).
    ((content_at c.args.self.now k).tick +ℤ pos (length (undo_splices (seen_buffer_now (content_at c.args.self.now k)) (legs_to c.args.number (sealed_undo (seen_buffer_now (content_at c.args.self.now k))))))) ≤ℤ _)
    (sym e) c.requires.tick in
    undo_tick n c.args.self.now c.seal_buffer.new.self c.seal_buffer.ensures.known c.in_ok-seal_buffer.ensures.sealed c.as_slice.result.now
    (legs_to c.args.number (sealed_undo (seen_buffer_now (content_at c.args.self.now n)))) _
    (to_slice n c.args.self.now c.seal_buffer.new.self c.seal_buffer.ensures.known c.in_ok-seal_buffer.ensures.sealed c.args.number c.as_slice.result.now (c.as_slice.ensures.value ∙ c.in_ok-legs.ensures.path)) within

pub returns : goal.returns
returns c =
    let e : to_z w64 (of_z w64 c.args.buffer) ≡ c.args.buffer = search rules in
    let n : ℤ = to_z w64 (of_z w64 c.args.buffer) in
    let same : c.as_slice.result.now ≡ legs_to c.args.number (sealed_undo (seen_buffer_now (content_at c.args.self.now n))) =
    to_slice n c.args.self.now c.seal_buffer.new.self c.seal_buffer.ensures.known c.in_ok-seal_buffer.ensures.sealed c.args.number c.as_slice.result.now (c.as_slice.ensures.value ∙ c.in_ok-legs.ensures.path) in
    subst (λ (k : ℤ).
    Replies
    (replied nil
    (undo_operations k (seen_buffer_now (content_at c.args.self.now k)) (legs_to c.args.number (sealed_undo (seen_buffer_now (content_at c.args.self.now k)))))
    (edits k (seen_buffer_now (content_at c.args.self.now k))
    (undo_splices (seen_buffer_now (content_at c.args.self.now k)) (legs_to c.args.number (sealed_undo (seen_buffer_now (content_at c.args.self.now k)))))))
    nil c.args.self.now c.go_way.new.self c.args.happened.now c.go_way.new.happened) e
    (undo_replies n c.args.self.now c.seal_buffer.new.self c.go_way.new.self c.args.happened.now c.go_way.new.happened c.as_slice.result.now
    (legs_to c.args.number (sealed_undo (seen_buffer_now (content_at c.args.self.now n)))) c.seal_buffer.ensures.known c.in_ok-seal_buffer.ensures.sealed
    c.in_ok-go_way.ensures same)
