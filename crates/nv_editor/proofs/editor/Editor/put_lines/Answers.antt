use Rattle.std.proofs.Common.{◌≡◌, ℤ, List, [], ◌∷◌, ◌++◌, Option, sym, subst, rules, to_z, of_z, w64}
use Rattle.nv_value.specs.Content.{nil}
use Rattle.nv_buffer.specs.Content.{next_part}
use Rattle.nv_buffer.specs.declared.buffer.Spliced.{Spliced}
use Rattle.nv_model.specs.Answering.{splice_answer}
use Rattle.nv_model.specs.Buffers.{rows_splice}
use Rattle.nv_model.specs.Stage.{Stage}
use Rattle.nv_model.specs.Standing.{PresentEditor, seen_buffer_now}
use Rattle.nv_editor.specs.Doing.{Replies}
use Rattle.nv_editor.specs.Sound.{IsSoundEditor, content_at}
use Rattle.nv_editor.specs.inside.Splicing.{IsMade, IsLeft, IsMadeOrLeft}
use Rattle.nv_editor.specs.inside.Table.{content_in, AreKeptBuffers}
use Rattle.nv_editor.proofs.Carrying.{IsEdited, made_is_edited, narrowly, moves_narrowly, edited_sound}
use Rattle.nv_editor.proofs.Putting.{on_ok}
use Rattle.nv_editor.proofs.StageKept.{editor_of}
use Rattle.nv_editor.proofs.TextDone.{left_sound, left_kept, left_replies, made_kept, made_replies}
use Rattle.nv_editor.proofs.editor.Editor.put_lines.Goals as goal

pub invariant_of-self : goal.invariant_of-self
invariant_of-self c = (c.self.invariant.0, subst (λ (l : List ℤ). AreKeptBuffers l c.self.inside.buffers) (sym c.in_err-push.ensures.items) c.self.invariant.1)

pub invariant_of-self-in_err-splice_lines : goal.invariant_of-self-in_err-splice_lines
invariant_of-self-in_err-splice_lines c =
    let n : ℤ = to_z w64 (of_z w64 c.args.buffer) in
    let pushed : c.push.new.self.items ≡ c.self.inside.edited.items ++ n ∷ [] = c.in_ok-push.ensures.items in
    let is = c.in_err-splice_lines.ensures.updated in
    let same = c.in_err-splice_lines.ensures.err in
    (left_sound c.self.inside.buffers c.splice_lines.new.self c.self.inside.stage n c.self.invariant.0 is same, left_kept c.self.inside.edited.items c.push.new.self.items c.self.inside.buffers c.splice_lines.new.self n pushed c.self.invariant.1 is same)

pub invariant_of-self-in-None : goal.invariant_of-self-in-None
invariant_of-self-in-None c =
    let n : ℤ = to_z w64 (of_z w64 c.args.buffer) in
    let pushed : c.push.new.self.items ≡ c.self.inside.edited.items ++ n ∷ [] = c.in_ok-push.ensures.items in
    let left : IsLeft (content_in c.self.inside.buffers n) (content_in c.splice_lines.new.self n) (rows_splice (next_part (content_in c.self.inside.buffers n)) (content_in c.self.inside.buffers n).text c.args.from c.args.to c.args.new) =
    subst (λ (o : Option Spliced). IsMadeOrLeft o (content_in c.self.inside.buffers n) (content_in c.splice_lines.new.self n) (rows_splice (next_part (content_in c.self.inside.buffers n)) (content_in c.self.inside.buffers n).text c.args.from c.args.to c.args.new)) c.in-None.is c.in_ok-splice_lines.ensures.made in
    (left_sound c.self.inside.buffers c.splice_lines.new.self c.self.inside.stage n c.self.invariant.0 c.in_ok-splice_lines.ensures.updated left.same, left_kept c.self.inside.edited.items c.push.new.self.items c.self.inside.buffers c.splice_lines.new.self n pushed c.self.invariant.1 c.in_ok-splice_lines.ensures.updated left.same)

pub returns-in-None : goal.returns-in-None
returns-in-None c =
    let n : ℤ = to_z w64 (of_z w64 c.args.buffer) in
    let left : IsLeft (content_in c.self.inside.buffers n) (content_in c.splice_lines.new.self n) (rows_splice (next_part (content_in c.self.inside.buffers n)) (content_in c.self.inside.buffers n).text c.args.from c.args.to c.args.new) =
    subst (λ (o : Option Spliced). IsMadeOrLeft o (content_in c.self.inside.buffers n) (content_in c.splice_lines.new.self n) (rows_splice (next_part (content_in c.self.inside.buffers n)) (content_in c.self.inside.buffers n).text c.args.from c.args.to c.args.new)) c.in-None.is c.in_ok-splice_lines.ensures.made in
    let e : n ≡ c.args.buffer = search rules in
    subst (λ (e : PresentEditor). Replies (splice_answer c.args.buffer (seen_buffer_now (content_at e c.args.buffer)) (rows_splice (next_part (content_at e c.args.buffer)) (content_at e c.args.buffer).text c.args.from c.args.to c.args.new)) nil e (editor_of c.splice_lines.new.self c.self.inside.stage) c.args.happened.now c.args.happened.now) c.self.view_is
    (subst (λ (k : ℤ). Replies (splice_answer k (seen_buffer_now (content_in c.self.inside.buffers k)) (rows_splice (next_part (content_in c.self.inside.buffers k)) (content_in c.self.inside.buffers k).text c.args.from c.args.to c.args.new)) nil (editor_of c.self.inside.buffers c.self.inside.stage) (editor_of c.splice_lines.new.self c.self.inside.stage) c.args.happened.now c.args.happened.now) e
    (left_replies c.self.inside.buffers c.splice_lines.new.self c.self.inside.stage n (rows_splice (next_part (content_in c.self.inside.buffers n)) (content_in c.self.inside.buffers n).text c.args.from c.args.to c.args.new) c.args.happened.now c.in_ok-splice_lines.ensures.updated left))

pub tell_splice-requires-clause-old_end : goal.tell_splice-requires-clause-old_end
tell_splice-requires-clause-old_end c =
    let n : ℤ = to_z w64 (of_z w64 c.args.buffer) in
    let made : IsMade (content_in c.self.inside.buffers n) (content_in c.splice_lines.new.self n) (rows_splice (next_part (content_in c.self.inside.buffers n)) (content_in c.self.inside.buffers n).text c.args.from c.args.to c.args.new) c.in-Some.spliced =
    subst (λ (o : Option Spliced). IsMadeOrLeft o (content_in c.self.inside.buffers n) (content_in c.splice_lines.new.self n) (rows_splice (next_part (content_in c.self.inside.buffers n)) (content_in c.self.inside.buffers n).text c.args.from c.args.to c.args.new)) c.in-Some.is c.in_ok-splice_lines.ensures.made in
    let edit : IsEdited (content_in c.self.inside.buffers n) (content_in c.splice_lines.new.self n) c.in-Some.spliced.edit = made_is_edited (content_in c.self.inside.buffers n) (content_in c.splice_lines.new.self n) (rows_splice (next_part (content_in c.self.inside.buffers n)) (content_in c.self.inside.buffers n).text c.args.from c.args.to c.args.new) c.in-Some.spliced made in
    (narrowly (content_in c.self.inside.buffers n) (content_in c.splice_lines.new.self n) c.in-Some.spliced.edit edit).old

pub tell_splice-requires-clause-new_end : goal.tell_splice-requires-clause-new_end
tell_splice-requires-clause-new_end c =
    let n : ℤ = to_z w64 (of_z w64 c.args.buffer) in
    let made : IsMade (content_in c.self.inside.buffers n) (content_in c.splice_lines.new.self n) (rows_splice (next_part (content_in c.self.inside.buffers n)) (content_in c.self.inside.buffers n).text c.args.from c.args.to c.args.new) c.in-Some.spliced =
    subst (λ (o : Option Spliced). IsMadeOrLeft o (content_in c.self.inside.buffers n) (content_in c.splice_lines.new.self n) (rows_splice (next_part (content_in c.self.inside.buffers n)) (content_in c.self.inside.buffers n).text c.args.from c.args.to c.args.new)) c.in-Some.is c.in_ok-splice_lines.ensures.made in
    let edit : IsEdited (content_in c.self.inside.buffers n) (content_in c.splice_lines.new.self n) c.in-Some.spliced.edit = made_is_edited (content_in c.self.inside.buffers n) (content_in c.splice_lines.new.self n) (rows_splice (next_part (content_in c.self.inside.buffers n)) (content_in c.self.inside.buffers n).text c.args.from c.args.to c.args.new) c.in-Some.spliced made in
    (narrowly (content_in c.self.inside.buffers n) (content_in c.splice_lines.new.self n) c.in-Some.spliced.edit edit).new

pub tell_splice-requires-clause-moved : goal.tell_splice-requires-clause-moved
tell_splice-requires-clause-moved c =
    let n : ℤ = to_z w64 (of_z w64 c.args.buffer) in
    let made : IsMade (content_in c.self.inside.buffers n) (content_in c.splice_lines.new.self n) (rows_splice (next_part (content_in c.self.inside.buffers n)) (content_in c.self.inside.buffers n).text c.args.from c.args.to c.args.new) c.in-Some.spliced =
    subst (λ (o : Option Spliced). IsMadeOrLeft o (content_in c.self.inside.buffers n) (content_in c.splice_lines.new.self n) (rows_splice (next_part (content_in c.self.inside.buffers n)) (content_in c.self.inside.buffers n).text c.args.from c.args.to c.args.new)) c.in-Some.is c.in_ok-splice_lines.ensures.made in
    let edit : IsEdited (content_in c.self.inside.buffers n) (content_in c.splice_lines.new.self n) c.in-Some.spliced.edit = made_is_edited (content_in c.self.inside.buffers n) (content_in c.splice_lines.new.self n) (rows_splice (next_part (content_in c.self.inside.buffers n)) (content_in c.self.inside.buffers n).text c.args.from c.args.to c.args.new) c.in-Some.spliced made in
    moves_narrowly c.self.inside.buffers c.splice_lines.new.self c.self.inside.stage n c.in-Some.spliced.edit c.self.invariant.0 c.in_ok-splice_lines.ensures.updated edit

pub invariant_of-self-in-Some : goal.invariant_of-self-in-Some
invariant_of-self-in-Some c =
    let n : ℤ = to_z w64 (of_z w64 c.args.buffer) in
    let pushed : c.push.new.self.items ≡ c.self.inside.edited.items ++ n ∷ [] = c.in_ok-push.ensures.items in
    let made : IsMade (content_in c.self.inside.buffers n) (content_in c.splice_lines.new.self n) (rows_splice (next_part (content_in c.self.inside.buffers n)) (content_in c.self.inside.buffers n).text c.args.from c.args.to c.args.new) c.in-Some.spliced =
    subst (λ (o : Option Spliced). IsMadeOrLeft o (content_in c.self.inside.buffers n) (content_in c.splice_lines.new.self n) (rows_splice (next_part (content_in c.self.inside.buffers n)) (content_in c.self.inside.buffers n).text c.args.from c.args.to c.args.new)) c.in-Some.is c.in_ok-splice_lines.ensures.made in
    let edit : IsEdited (content_in c.self.inside.buffers n) (content_in c.splice_lines.new.self n) c.in-Some.spliced.edit = made_is_edited (content_in c.self.inside.buffers n) (content_in c.splice_lines.new.self n) (rows_splice (next_part (content_in c.self.inside.buffers n)) (content_in c.self.inside.buffers n).text c.args.from c.args.to c.args.new) c.in-Some.spliced made in (
      subst (λ (st : Stage). IsSoundEditor (editor_of c.splice_lines.new.self st)) (sym c.tell_splice.ensures.stage) (edited_sound c.self.inside.buffers c.splice_lines.new.self c.self.inside.stage n c.in-Some.spliced.edit c.self.invariant.0 c.in_ok-splice_lines.ensures.updated edit),
      made_kept c.self.inside.edited.items c.push.new.self.items c.self.inside.buffers c.splice_lines.new.self n (rows_splice (next_part (content_in c.self.inside.buffers n)) (content_in c.self.inside.buffers n).text c.args.from c.args.to c.args.new) c.in-Some.spliced pushed c.self.invariant.1 c.in_ok-splice_lines.ensures.updated made,
    )

pub returns-in-Some : goal.returns-in-Some
returns-in-Some c =
    let n : ℤ = to_z w64 (of_z w64 c.args.buffer) in
    let made : IsMade (content_in c.self.inside.buffers n) (content_in c.splice_lines.new.self n) (rows_splice (next_part (content_in c.self.inside.buffers n)) (content_in c.self.inside.buffers n).text c.args.from c.args.to c.args.new) c.in-Some.spliced =
    subst (λ (o : Option Spliced). IsMadeOrLeft o (content_in c.self.inside.buffers n) (content_in c.splice_lines.new.self n) (rows_splice (next_part (content_in c.self.inside.buffers n)) (content_in c.self.inside.buffers n).text c.args.from c.args.to c.args.new)) c.in-Some.is c.in_ok-splice_lines.ensures.made in
    let e : n ≡ c.args.buffer = search rules in
    on_ok c.tell_splice.result _ _ (λ told.
    subst (λ (e : PresentEditor). Replies (splice_answer c.args.buffer (seen_buffer_now (content_at e c.args.buffer)) (rows_splice (next_part (content_at e c.args.buffer)) (content_at e c.args.buffer).text c.args.from c.args.to c.args.new)) nil e (editor_of c.splice_lines.new.self c.tell_splice.new.stage) c.args.happened.now c.tell_splice.new.happened) c.self.view_is
    (subst (λ (k : ℤ). Replies (splice_answer k (seen_buffer_now (content_in c.self.inside.buffers k)) (rows_splice (next_part (content_in c.self.inside.buffers k)) (content_in c.self.inside.buffers k).text c.args.from c.args.to c.args.new)) nil (editor_of c.self.inside.buffers c.self.inside.stage) (editor_of c.splice_lines.new.self c.tell_splice.new.stage) c.args.happened.now c.tell_splice.new.happened) e
    (made_replies c.self.inside.buffers c.splice_lines.new.self c.self.inside.stage c.tell_splice.new.stage n (rows_splice (next_part (content_in c.self.inside.buffers n)) (content_in c.self.inside.buffers n).text c.args.from c.args.to c.args.new) c.in-Some.spliced c.args.happened.now c.tell_splice.new.happened c.in_ok-splice_lines.ensures.updated made c.tell_splice.ensures.stage told)))
    c.tell_splice.ensures.told
