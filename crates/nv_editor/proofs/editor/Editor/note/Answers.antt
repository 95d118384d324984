use Rattle.std.proofs.Common.{◌≡◌, ◌∙◌, ℕ, ℤ, List, Option, None, Some, IfSome, ap, option_map, subst, sym, rules, to_z, of_z, w64}
use Rattle.nv_model.specs.Standing.{PresentEditor}
use Rattle.nv_notes.specs.Notes.{AreNotesOf, IsNoteOf, NoteText, note_at}
use Rattle.nv_editor.proofs.NotesKept.{note_has}
use Rattle.nv_editor.proofs.editor.Editor.note.Goals as goal

lent_has : {A B : Type 0} (f : A → B) (P : B → Type 0) (o : Option A) → IfSome (option_map f o) P → IfSome o (λ x. P (f x))
lent_has f P None has = tt
lent_has f P (Some x) has = has

pub returns-clause-note : goal.returns-clause-note
returns-clause-note c =
    let e : to_z w64 (of_z w64 c.args.buffer) ≡ c.args.buffer = search rules in
    let stage = c.self.inside.stage in
    c.get.ensures
    ∙ ap (λ (notes : List ((ℤ × ℕ) × NoteText)). note_at notes (to_z w64 (of_z w64 c.args.buffer)) c.args.set) c.notes.ensures.notes
    ∙ ap (λ (n : ℤ). note_at stage.notes n c.args.set) e
    ∙ ap (λ (x : PresentEditor). note_at x.stage.notes c.args.buffer c.args.set) c.self.view_is

pub returns-clause-groups : goal.returns-clause-groups
returns-clause-groups c =
    let stage = c.self.inside.stage in
    let kept : AreNotesOf stage.groups c.notes.result.now =
    subst (λ (notes : List ((ℤ × ℕ) × NoteText)). AreNotesOf stage.groups notes) (sym c.notes.ensures.notes) c.notes.ensures.groups in
    subst (λ (x : PresentEditor). IfSome c.get.result (λ n. IsNoteOf x.stage.groups n.now)) c.self.view_is
    (lent_has (λ n. n.now) (IsNoteOf stage.groups) c.get.result
    (subst (λ (o : Option NoteText). IfSome o (IsNoteOf stage.groups)) (sym c.get.ensures)
    (note_has stage.groups _ c.args.set c.notes.result.now kept)))
