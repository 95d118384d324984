-- What is told of a mark can be spelled.
use Rattle.std.proofs.Common.{◌≡◌, ℕ, ◌<◌, ◌≤◌, ◌^◌, All, map, refl, Bool, true, false, not, cond, List, [], ◌∷◌, ◌++◌, length, arith, Option, Some, None}
use Rattle.std.specs.Prelude.{codes, IfSome}
use Rattle.std.specs.Option.{option_map_or}
use Rattle.std.proofs.lemmas.List.{length-map}
use Rattle.std.proofs.lemmas.List.Elements.{All-head, All-tail}
use Rattle.nv_value.specs.Content.{Tree, count, trees_of, truth}
use Rattle.nv_msgpack.specs.Shortest.{HasSpelling, HaveSpellings}
use Rattle.nv_marks.specs.declared.extmark.Far.{Far}
use Rattle.nv_marks.specs.declared.extmark.Mark.{Mark}
use Rattle.nv_marks.specs.declared.extmark.Paint.{Paint}
use Rattle.nv_hl.specs.Groups.{NamedGroup, name_at}
use Rattle.nv_model.specs.Answering.{key_value, natural}
use Rattle.nv_notes.specs.Notes.{NoteText}
use Rattle.nv_notes.specs.declared.note.At.{At}
use Rattle.nv_notes.specs.declared.note.At.TheVariants.{Eol, Overlay, RightAlign}
use Rattle.nv_notes.specs.declared.note.Chunk.{Chunk}
use Rattle.nv_api_mark.specs.MarkRows.{chunk_told, details_of, end_details, note_details, paint_details, place_word, undo_details}
use Rattle.nv_api_mark.specs.inside.Marking.{IsChunkTold, IsGroupTold, IsNoteTold}
use Rattle.nv_api_mark.proofs.AttrsTold.{Spells, behind}
use Rattle.nv_args.proofs.Spelled.{count-trees, list-spelled}
use Rattle.nv_api_mark.proofs.Spelled.{count-turns}

abbrev first_details : Mark → List (Tree × Tree)
first_details m =
    key_value "ns_id" (natural m.ns) ∷ key_value "right_gravity" (truth m.right) ∷ key_value "priority" (natural m.priority) ∷ []

first_spelled : (m : Mark) → Spells 3 (first_details m)
first_spelled m = record { few = omega arith; each = (omega arith, (tt, (omega arith, (tt, (omega arith, (tt, tt)))))) }

end_spelled : (stop : Option Far) → Spells 3 (end_details stop)
end_spelled None = record { few = omega arith; each = tt }
end_spelled (Some far) = record { few = omega arith; each = (omega arith, (tt, (omega arith, (tt, (omega arith, (tt, tt)))))) }

paint_spelled : (groups : List NamedGroup) (paint : Option Paint) → IsGroupTold groups paint → Spells 2 (paint_details groups paint)
paint_spelled groups None short = record { few = omega arith; each = tt }
paint_spelled groups (Some paint) short = record { few = omega arith; each = (omega arith, (short, (omega arith, (tt, tt)))) }

one_spelled : (key : List ℕ) (is_told is_set : Bool) → length key < 2 ^ 32 → Spells 1 (cond is_told ((Tree.text key, truth is_set) ∷ []) [])
one_spelled key true is_set short = record { few = omega arith; each = (short, (tt, tt)) }
one_spelled key false is_set short = record { few = omega arith; each = tt }

undo_spelled : (m : Mark) → Spells 3 (undo_details m)
undo_spelled m =
    behind 2 1 _ _
    (behind 1 1 _ _ (one_spelled (codes "undo_restore") (not m.restore) false (omega arith)) (one_spelled (codes "invalidate") m.invalidate true (omega arith)))
    (one_spelled (codes "invalid") m.hidden true (omega arith))

-- a part of a virtual text, and its parts
group_spelled : (groups : List NamedGroup) (group : Option ℕ) → IfSome group (λ id. length (name_at groups id) < 2 ^ 32)
    → HaveSpellings (trees_of (option_map_or (λ id. Tree.text (name_at groups id) ∷ []) group []))
group_spelled groups None short = tt
group_spelled groups (Some id) short = (short, tt)

count_group : (groups : List NamedGroup) (group : Option ℕ) → length (option_map_or (λ id. Tree.text (name_at groups id) ∷ []) group []) ≤ 1
count_group groups None = omega arith
count_group groups (Some id) = omega arith

pub chunk_spelled : (groups : List NamedGroup) (c : Chunk) → IsChunkTold groups c → HasSpelling (chunk_told groups c)
chunk_spelled groups c short =
    let behind_text = option_map_or (λ id. Tree.text (name_at groups id) ∷ []) c.group [] in
    (omega (arith, count-trees (Tree.text c.text ∷ behind_text), count_group groups c.group), (short.0, group_spelled groups c.group short.1))

chunks_spelled : (groups : List NamedGroup) (cs : List Chunk) → All (IsChunkTold groups) cs → HaveSpellings (trees_of (map (chunk_told groups) cs))
chunks_spelled groups [] short = tt
chunks_spelled groups (c ∷ cs) short =
    (chunk_spelled groups c (All-head (IsChunkTold groups) c cs short), chunks_spelled groups cs (All-tail (IsChunkTold groups) c cs short))

word_short : (at : At) → length (place_word at) < 2 ^ 32
word_short Eol = omega arith
word_short Overlay = omega arith
word_short RightAlign = omega arith

note_spelled : (groups : List NamedGroup) (note : Option NoteText) → IsNoteTold groups note → Spells 2 (note_details groups note)
note_spelled groups None short = record { few = omega arith; each = tt }
note_spelled groups (Some note) short = record {
  few = omega arith;
  each = (
    omega arith,
    (
      list-spelled (chunk_told groups) (map (chunk_told groups) note.chunks) note.chunks refl short.0 (chunks_spelled groups note.chunks short.1),
      (omega arith, (word_short note.at, tt)),
    ),
  );
}

pub details_spelled : (groups : List NamedGroup) (note : Option NoteText) (m : Mark) → IsGroupTold groups m.paint → IsNoteTold groups note
    → HasSpelling (details_of groups note m)
details_spelled groups note m short texts =
    let entries : List (Tree × Tree) =
    first_details m ++ (end_details m.stop ++ (paint_details groups m.paint ++ (undo_details m ++ note_details groups note))) in
    let all : Spells 13 entries =
    behind 3 10 _ _ (first_spelled m)
    (behind 3 7 _ _ (end_spelled m.stop)
    (behind 2 5 _ _ (paint_spelled groups m.paint short) (behind 3 2 _ _ (undo_spelled m) (note_spelled groups note texts)))) in
    (omega (arith, count-turns entries, all.few), all.each)
