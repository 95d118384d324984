use Rattle.std.proofs.Common.{rules, ◌≡◌, ◌∙◌, ap, to_z, of_z, w64, List, ℕ, ℤ}
use Rattle.nv_notes.specs.Notes.{NoteText, notes_with}
use Rattle.nv_notes.proofs.notes.Notes.put.Goals as goal

pub returns-clause-ok : goal.returns-clause-ok
returns-clause-ok c =
    let key : to_z w64 (of_z w64 c.args.buffer) ≡ c.args.buffer = search rules in
    c.in_ok-insert.ensures.entries
    ∙ ap (λ n. notes_with n c.args.set c.args.note c.self.inside.kept.entries) key
    ∙ ap (λ (notes : List ((ℤ × ℕ) × NoteText)). notes_with c.args.buffer c.args.set c.args.note notes) c.self.view_is
