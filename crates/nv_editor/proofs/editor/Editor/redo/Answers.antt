use Rattle.std.proofs.Common.{◌≡◌, ◌∙◌, ℤ, ℕ, pos, ◌+ℤ◌, ◌≤◌, ◌≤ℤ◌, List, [], Some, None, length, sym, subst, arith, rules, to_z, of_z, w64}
use Rattle.nv_value.specs.Content.{nil}
use Rattle.nv_undo.specs.Tree.{last}
use Rattle.nv_undo.specs.Ways.{redo_legs}
use Rattle.nv_undo.specs.declared.legs.Leg.{Leg}
use Rattle.nv_model.specs.Answers.{replied, edits, undo_operations, undo_splices}
use Rattle.nv_model.specs.Seen.{sealed_undo}
use Rattle.nv_model.specs.Standing.{seen_buffer_now}
use Rattle.nv_editor.specs.Doing.{Replies}
use Rattle.nv_editor.specs.Sound.{content_at}
use Rattle.nv_editor.proofs.Undone.{undo_replies, undo_tick, redo_slice, ahead_none, ahead_one}
use Rattle.nv_buffer.proofs.Going.{way_none}
use Rattle.nv_editor.proofs.editor.Editor.redo.Goals as goal

pub go_way-requires-clause-way : goal.go_way-requires-clause-way
go_way-requires-clause-way c =
    let n : ℤ = to_z w64 (of_z w64 c.args.buffer) in way_none (content_at c.seal_buffer.new.self n).undo c.as_slice.result.now c.as_slice.ensures

pub go_way-requires-in-Some-clause-tick : goal.go_way-requires-in-Some-clause-tick
go_way-requires-in-Some-clause-tick c =
    let e : to_z w64 (of_z w64 c.args.buffer) ≡ c.args.buffer = search rules in
    let n : ℤ = to_z w64 (of_z w64 c.args.buffer) in
    let within =
    subst (λ (k : ℤ).
    ((content_at c.args.self.now k).tick +ℤ pos (length (undo_splices (seen_buffer_now (content_at c.args.self.now k)) (redo_legs (sealed_undo (seen_buffer_now (content_at c.args.self.now k))))))) ≤ℤ _)
    (sym e) c.requires.tick in
    undo_tick n c.args.self.now c.seal_buffer.new.self c.seal_buffer.ensures.known c.in_ok-seal_buffer.ensures.sealed c.as_slice-in-Some.result.now
    (redo_legs (sealed_undo (seen_buffer_now (content_at c.args.self.now n)))) _
    (redo_slice n c.args.self.now c.seal_buffer.new.self c.seal_buffer.ensures.known c.in_ok-seal_buffer.ensures.sealed c.as_slice-in-Some.result.now (ahead_one (content_at c.seal_buffer.new.self n).undo c.as_slice-in-Some.result.now c.in-Some.child c.as_slice-in-Some.ensures c.in-Some.ensures.number)) within

pub returns-in_ok-go_way-in-None : goal.returns-in_ok-go_way-in-None
returns-in_ok-go_way-in-None c =
    let e : to_z w64 (of_z w64 c.args.buffer) ≡ c.args.buffer = search rules in
    let n : ℤ = to_z w64 (of_z w64 c.args.buffer) in
    let same : c.as_slice.result.now ≡ redo_legs (sealed_undo (seen_buffer_now (content_at c.args.self.now n))) =
    redo_slice n c.args.self.now c.seal_buffer.new.self c.seal_buffer.ensures.known c.in_ok-seal_buffer.ensures.sealed c.as_slice.result.now (ahead_none (content_at c.seal_buffer.new.self n).undo c.as_slice.result.now c.as_slice.ensures c.in-None.ensures.number) in
    subst (λ (k : ℤ).
    Replies
    (replied nil
    (undo_operations k (seen_buffer_now (content_at c.args.self.now k)) (redo_legs (sealed_undo (seen_buffer_now (content_at c.args.self.now k)))))
    (edits k (seen_buffer_now (content_at c.args.self.now k))
    (undo_splices (seen_buffer_now (content_at c.args.self.now k)) (redo_legs (sealed_undo (seen_buffer_now (content_at c.args.self.now k)))))))
    nil c.args.self.now c.go_way.new.self c.args.happened.now c.go_way.new.happened) e
    (undo_replies n c.args.self.now c.seal_buffer.new.self c.go_way.new.self c.args.happened.now c.go_way.new.happened c.as_slice.result.now
    (redo_legs (sealed_undo (seen_buffer_now (content_at c.args.self.now n)))) c.seal_buffer.ensures.known c.in_ok-seal_buffer.ensures.sealed
    c.in_ok-go_way-in-None.ensures same)

pub returns-in_ok-go_way-in-Some : goal.returns-in_ok-go_way-in-Some
returns-in_ok-go_way-in-Some c =
    let e : to_z w64 (of_z w64 c.args.buffer) ≡ c.args.buffer = search rules in
    let n : ℤ = to_z w64 (of_z w64 c.args.buffer) in
    let same : c.as_slice-in-Some.result.now ≡ redo_legs (sealed_undo (seen_buffer_now (content_at c.args.self.now n))) =
    redo_slice n c.args.self.now c.seal_buffer.new.self c.seal_buffer.ensures.known c.in_ok-seal_buffer.ensures.sealed c.as_slice-in-Some.result.now (ahead_one (content_at c.seal_buffer.new.self n).undo c.as_slice-in-Some.result.now c.in-Some.child c.as_slice-in-Some.ensures c.in-Some.ensures.number) in
    subst (λ (k : ℤ).
    Replies
    (replied nil
    (undo_operations k (seen_buffer_now (content_at c.args.self.now k)) (redo_legs (sealed_undo (seen_buffer_now (content_at c.args.self.now k)))))
    (edits k (seen_buffer_now (content_at c.args.self.now k))
    (undo_splices (seen_buffer_now (content_at c.args.self.now k)) (redo_legs (sealed_undo (seen_buffer_now (content_at c.args.self.now k)))))))
    nil c.args.self.now c.go_way-in-Some.new.self c.args.happened.now c.go_way-in-Some.new.happened) e
    (undo_replies n c.args.self.now c.seal_buffer.new.self c.go_way-in-Some.new.self c.args.happened.now c.go_way-in-Some.new.happened c.as_slice-in-Some.result.now
    (redo_legs (sealed_undo (seen_buffer_now (content_at c.args.self.now n)))) c.seal_buffer.ensures.known c.in_ok-seal_buffer.ensures.sealed
    c.in_ok-go_way-in-Some.ensures same)
