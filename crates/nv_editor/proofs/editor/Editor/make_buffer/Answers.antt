use Rattle.std.proofs.Common.{◌≡◌, ℤ, List, [], ◌∷◌, ◌++◌, pos, true, false, sym, ap, subst, ◌∙◌, rules, arith, to_z, of_z, w64}
use Rattle.std.specs.Prelude.{◌≤ℤ◌, ◌+ℤ◌}
use Rattle.std.proofs.lemmas.Int.{ints}
use Rattle.nv_buffer.specs.Content.{Content, fresh_content}
use Rattle.nv_windows.specs.Rooms.{last_handle}
use Rattle.nv_model.specs.Deleting.{no_buffer_left}
use Rattle.nv_model.specs.Operations.{buffer_made}
use Rattle.nv_model.specs.Stage.{Stage}
use Rattle.nv_model.specs.Standing.{PresentEditor}
use Rattle.nv_model.proofs.Changing.{new_buffer_is_kept}
use Rattle.nv_editor.specs.Doing.{Does}
use Rattle.nv_editor.specs.Sound.{IsSoundEditor, is_live_buffer}
use Rattle.nv_editor.specs.inside.Table.{AreKeptBuffers}
use Rattle.nv_editor.proofs.MadeBuffers.{room_left, next_sound, next_kept, next_live}
use Rattle.nv_editor.proofs.StageKept.{editor_of}
use Rattle.nv_editor.proofs.editor.Editor.make_buffer.Goals as goal

room_at : (now : PresentEditor) (inside : Stage) (bs : List (ℤ × Content)) → editor_of bs inside ≡ now → no_buffer_left now.stage ≡ false
    → inside.next_buffer ≤ℤ last_handle
room_at now inside bs is left = room_left inside.next_buffer (ap (λ (d : PresentEditor). no_buffer_left d.stage) is ∙ left)

pub count_buffer-requires : goal.count_buffer-requires
count_buffer-requires c = omega (arith, ints, room_at c.args.self.now c.self.inside.stage c.self.inside.buffers c.self.view_is c.requires.room)

pub invariant_of-self : goal.invariant_of-self
invariant_of-self c = (
  subst (λ (bs : List (ℤ × Content)). IsSoundEditor (editor_of bs c.self.inside.stage)) (sym c.in_err-make.ensures.err) c.self.invariant.0,
  subst (λ (bs : List (ℤ × Content)). AreKeptBuffers c.self.inside.edited.items bs) (sym c.in_err-make.ensures.err) c.self.invariant.1,
)

pub invariant_of-self-2 : goal.invariant_of-self-2
invariant_of-self-2 c =
    let n : ℤ = c.self.inside.stage.next_buffer in
    let e : to_z w64 (of_z w64 c.next_buffer-handle.result) ≡ n = search rules in
    let room : n ≤ℤ last_handle = room_at c.args.self.now c.self.inside.stage c.self.inside.buffers c.self.view_is c.requires.room in
    let made : c.make.new.self ≡ c.self.inside.buffers ++ (n, fresh_content n c.args.listed) ∷ [] =
    c.in_ok-make.ensures.ok ∙ ap (λ (k : ℤ). c.self.inside.buffers ++ (k, fresh_content k c.args.listed) ∷ []) e in (
      subst (λ (bs : List (ℤ × Content)). IsSoundEditor (editor_of bs c.count_buffer.new.self)) (sym made)
          (subst (λ (s : Stage). IsSoundEditor (editor_of (c.self.inside.buffers ++ (n, fresh_content n c.args.listed) ∷ []) s)) (sym c.count_buffer.ensures)
          (next_sound c.self.inside.buffers c.self.inside.stage c.args.listed c.self.invariant.0 room)),
      subst (λ (bs : List (ℤ × Content)). AreKeptBuffers c.self.inside.edited.items bs) (sym made)
          (next_kept c.self.inside.edited.items c.self.inside.buffers n c.args.listed c.self.invariant.1),
    )

pub returns-clause-done : goal.returns-clause-done
returns-clause-done c =
    let n : ℤ = c.self.inside.stage.next_buffer in
    let e : to_z w64 (of_z w64 c.next_buffer-handle.result) ≡ n = search rules in
    let made : c.make.new.self ≡ c.self.inside.buffers ++ (n, fresh_content n c.args.listed) ∷ [] =
    c.in_ok-make.ensures.ok ∙ ap (λ (k : ℤ). c.self.inside.buffers ++ (k, fresh_content k c.args.listed) ∷ []) e in
    subst (λ (old : PresentEditor). Does (buffer_made c.args.listed ∷ []) old (editor_of c.make.new.self c.count_buffer.new.self)) c.self.view_is
    (subst (λ (bs : List (ℤ × Content)). Does (buffer_made c.args.listed ∷ []) (editor_of c.self.inside.buffers c.self.inside.stage) (editor_of bs c.count_buffer.new.self)) (sym made)
    (subst (λ (s : Stage). Does (buffer_made c.args.listed ∷ []) (editor_of c.self.inside.buffers c.self.inside.stage) (editor_of (c.self.inside.buffers ++ (n, fresh_content n c.args.listed) ∷ []) s)) (sym c.count_buffer.ensures)
    (λ m stands. new_buffer_is_kept (editor_of c.self.inside.buffers c.self.inside.stage) c.args.listed m stands)))

pub returns-clause-live : goal.returns-clause-live
returns-clause-live c =
    let h : ℤ = to_z w64 (of_z w64 c.next_buffer-handle.result) in
    subst (λ (bs : List (ℤ × Content)). is_live_buffer (editor_of bs c.count_buffer.new.self) h ≡ true) (sym c.in_ok-make.ensures.ok)
    (next_live c.self.inside.buffers h c.args.listed)
