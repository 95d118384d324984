use Rattle.std.proofs.Common.{rules, ◌≡◌, ◌∙◌, ap, to_z, of_z, w64, List, ℕ, ℤ}
use Rattle.nv_notes.specs.Notes.{NoteText, note_at}
use Rattle.nv_notes.proofs.notes.Notes.get.Goals as goal

pub returns : goal.returns
returns c =
    let key : to_z w64 (of_z w64 c.args.buffer) ≡ c.args.buffer = search rules in
    c.get.ensures.value
    ∙ ap (λ n. note_at c.self.inside.kept.entries n c.args.set) key
    ∙ ap (λ (notes : List ((ℤ × ℕ) × NoteText)). note_at notes c.args.buffer c.args.set) c.self.view_is
