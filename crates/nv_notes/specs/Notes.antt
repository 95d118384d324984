-- Virtual texts that go with extmarks (help: nvim_buf_set_extmark(), virt_text).
use Rattle.std.specs.Prelude.{ℕ, ℤ, All, IfSome, List, Option}
use Rattle.std.specs.BTreeMap.{insert_entry, is_at}
use Rattle.std.specs.Map.{lookup}
use Rattle.std.specs.Ordering.{int_cmp, nat_cmp, ordering_then}
use Rattle.std.specs.declared.cmp.Ordering.{Ordering}
use Rattle.nv_hl.specs.Groups.{HasGroup, NamedGroup}
use Rattle.nv_notes.specs.declared.note.At.{At}
use Rattle.nv_notes.specs.declared.note.Chunk.{Chunk}

-- a virtual text: its parts one behind another, and where it is
pub record NoteText : Type 0 where
  pub chunks : List Chunk
  pub at : At

-- by the handle of a buffer, and then by the number of a setting
abbrev pub note_order : ℤ × ℕ → ℤ × ℕ → Ordering
note_order p q = ordering_then (int_cmp p.0 q.0) (nat_cmp p.1 q.1)

-- the virtual text of a buffer that came with a setting
abbrev pub note_at : List ((ℤ × ℕ) × NoteText) → ℤ → ℕ → Option NoteText
note_at notes n set = lookup (is_at (note_order (n, set))) notes

-- the virtual texts with one of a buffer that comes with a setting
abbrev pub notes_with : ℤ → ℕ → NoteText → List ((ℤ × ℕ) × NoteText) → List ((ℤ × ℕ) × NoteText)
notes_with n set note notes = insert_entry note_order notes (n, set) note

-- the groups of the parts of virtual texts are there
abbrev pub IsChunkOf : List NamedGroup → Chunk → Type 0
IsChunkOf groups c = IfSome c.group (HasGroup groups)

abbrev pub IsNoteOf : List NamedGroup → NoteText → Type 0
IsNoteOf groups note = All (IsChunkOf groups) note.chunks

abbrev pub AreNotesOf : List NamedGroup → List ((ℤ × ℕ) × NoteText) → Type 0
AreNotesOf groups notes = All (λ (e : (ℤ × ℕ) × NoteText). IsNoteOf groups e.1) notes
