-- The groups of virtual texts are there, as groups and texts come.
use Rattle.std.proofs.Common.{◌≡◌, ◌≤◌, ◌+◌, ◌∙◌, ℕ, ℤ, Bool, true, false, cond, List, [], ◌∷◌, ◌++◌, length, ap, sym, subst, refl, arith, Option, Some, None, All, IfSome, is_some}
use Rattle.std.specs.BTreeMap.{insert_entry, is_at}
use Rattle.std.specs.Map.{lookup}
use Rattle.std.specs.Ordering.{match_ordering}
use Rattle.std.specs.declared.cmp.Ordering.{Ordering}
use Rattle.std.specs.declared.cmp.Ordering.TheVariants.{Less, Equal, Greater}
use Rattle.std.proofs.lemmas.List.{length-append}
use Rattle.std.proofs.lemmas.List.Elements.{All-cons, All-head, All-nil, All-tail, All-weaker}
use Rattle.nv_hl.specs.declared.linking.Group.{Group}
use Rattle.nv_hl.specs.Groups.{HasGroup, NamedGroup, known_id, with_group, with_named}
use Rattle.nv_hl.proofs.GroupLemmas.{length-with_group}
use Rattle.nv_notes.specs.declared.note.Chunk.{Chunk}
use Rattle.nv_notes.specs.Notes.{AreNotesOf, IsChunkOf, IsNoteOf, NoteText, note_at, note_order, notes_with}

abbrev Entry : Type 0
Entry = (ℤ × ℕ) × NoteText

abbrev IsOf : List NamedGroup → Entry → Type 0
IsOf gs e = IsNoteOf gs e.1

-- ---- more groups

chunk_kept : (gs hs : List NamedGroup) → length gs ≤ length hs → (c : Chunk) → IsChunkOf gs c → IsChunkOf hs c
chunk_kept gs hs more c = by c.group
  where
    by : (o : Option ℕ) → IfSome o (HasGroup gs) → IfSome o (HasGroup hs)
    by None has = tt
    by (Some id) has = (has.0, omega (arith, has.1, more))

note_kept : (gs hs : List NamedGroup) → length gs ≤ length hs → (e : Entry) → IsOf gs e → IsOf hs e
note_kept gs hs more e of = All-weaker (IsChunkOf gs) (IsChunkOf hs) (chunk_kept gs hs more) e.1.chunks of

notes_kept : (gs hs : List NamedGroup) (notes : List Entry) → length gs ≤ length hs → AreNotesOf gs notes → AreNotesOf hs notes
notes_kept gs hs notes more of = All-weaker (IsOf gs) (IsOf hs) (note_kept gs hs more) notes of

named_more : (gs : List NamedGroup) (g : NamedGroup) → length gs ≤ length (with_named gs g)
named_more gs g = by (is_some (known_id gs g.name))
  where
    by : (b : Bool) → length gs ≤ length (cond b gs (gs ++ g ∷ []))
    by true = omega arith
    by false = let more = length-append gs (g ∷ []) in omega (arith, more)

pub notes_named : (gs new : List NamedGroup) (g : NamedGroup) (notes : List Entry) → new ≡ with_named gs g → AreNotesOf gs notes → AreNotesOf new notes
notes_named gs new g notes is of =
    subst (λ (hs : List NamedGroup). AreNotesOf hs notes) (sym is) (notes_kept gs (with_named gs g) notes (named_more gs g) of)

pub notes_regrouped : (gs new : List NamedGroup) (id : ℕ) (group : Group) (notes : List Entry) → new ≡ with_group gs id group
    → AreNotesOf gs notes → AreNotesOf new notes
notes_regrouped gs new id group notes is of =
    let same = ap length is ∙ length-with_group gs id group in
    notes_kept gs new notes (omega (arith, same)) of

-- ---- one text more

pub notes_put : (gs : List NamedGroup) (n : ℤ) (set : ℕ) (note : NoteText) (notes : List Entry) → IsNoteOf gs note → AreNotesOf gs notes
    → AreNotesOf gs (notes_with n set note notes)
notes_put gs n set note [] has of = All-cons (IsOf gs) ((n, set), note) [] has (All-nil (IsOf gs))
notes_put gs n set note (e ∷ es) has of =
    by (note_order (n, set) e.0) (notes_put gs n set note es has (All-tail (IsOf gs) e es of))
  where
    rest : List Entry
    rest = insert_entry note_order es (n, set) note

    by : (o : Ordering) → All (IsOf gs) rest → All (IsOf gs) (match_ordering o (((n, set), note) ∷ e ∷ es) ((e.0, note) ∷ es) (e ∷ rest))
    by Less later = All-cons (IsOf gs) ((n, set), note) (e ∷ es) has of
    by Equal later = All-cons (IsOf gs) (e.0, note) es has (All-tail (IsOf gs) e es of)
    by Greater later = All-cons (IsOf gs) e rest (All-head (IsOf gs) e es of) later

-- ---- a text that is there

pub note_has : (gs : List NamedGroup) (n : ℤ) (set : ℕ) (notes : List Entry) → AreNotesOf gs notes → IfSome (note_at notes n set) (IsNoteOf gs)
note_has gs n set [] of = tt
note_has gs n set (e ∷ es) of = by (is_at (note_order (n, set)) e.0) (note_has gs n set es (All-tail (IsOf gs) e es of))
  where
    by : (b : Bool) → IfSome (lookup (is_at (note_order (n, set))) es) (IsNoteOf gs)
        → IfSome (cond b (Some e.1) (lookup (is_at (note_order (n, set))) es)) (IsNoteOf gs)
    by true rest = All-head (IsOf gs) e es of
    by false rest = rest
