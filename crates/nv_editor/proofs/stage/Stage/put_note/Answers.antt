use Rattle.std.proofs.Common.{◌≡◌, ◌∙◌, List, ℕ, ℤ, ap, sym, subst, rules, to_z, of_z, w64}
use Rattle.nv_model.specs.Stage.{Stage}
use Rattle.nv_notes.specs.Notes.{AreNotesOf, IsNoteOf, NoteText, notes_with}
use Rattle.nv_editor.proofs.NotesKept.{notes_put}
use Rattle.nv_editor.proofs.stage.Stage.put_note.Goals as goal

pub invariant_of-self : goal.invariant_of-self
invariant_of-self c =
    subst (λ (ns : List ((ℤ × ℕ) × NoteText)). AreNotesOf c.self.inside.groups ns) (sym c.in_err-put.ensures.err) c.self.invariant

pub invariant_of-self-2 : goal.invariant_of-self-2
invariant_of-self-2 c =
    let has = subst (λ (s : Stage). IsNoteOf s.groups c.args.note) (sym c.self.view_is) c.requires in
    subst (λ (ns : List ((ℤ × ℕ) × NoteText)). AreNotesOf c.self.inside.groups ns) (sym c.in_ok-put.ensures.ok)
    (notes_put c.self.inside.groups _ c.args.set c.args.note c.self.inside.notes has c.self.invariant)

pub returns-clause-put : goal.returns-clause-put
returns-clause-put c =
    let e : to_z w64 (of_z w64 c.args.buffer) ≡ c.args.buffer = search rules in
    let stage : Stage = record {
      workspace = c.self.inside.windows;
      namespaces = c.self.inside.namespaces;
      groups = c.self.inside.groups;
      notes = c.self.inside.notes;
      uis = c.self.inside.uis.items;
      next_buffer = c.self.inside.next_buffer;
      limits = c.self.inside.limits;
    } in
    let put : c.put.new.self ≡ notes_with c.args.buffer c.args.set c.args.note stage.notes =
    c.in_ok-put.ensures.ok ∙ ap (λ (n : ℤ). notes_with n c.args.set c.args.note stage.notes) e in
    (λ i. record stage { notes = put i })
    ∙ ap (λ (s : Stage). record s { notes = notes_with c.args.buffer c.args.set c.args.note s.notes }) c.self.view_is
