use Rattle.std.proofs.Common.{◌≡◌, ◌<◌, ◌^◌, ◌∙◌, ◌++◌, ◌∷◌, All, List, Option, Some, length, map, option_map, sym, subst, ap}
use Rattle.nv_value.specs.Content.{text}
use Rattle.nv_value.specs.View.{content, pair_content}
use Rattle.nv_model.specs.Answering.{array_of, key_value}
use Rattle.nv_notes.specs.Notes.{NoteText}
use Rattle.nv_notes.specs.declared.note.Chunk.{Chunk}
use Rattle.nv_api_mark.specs.MarkRows.{chunk_told, note_details, place_word}
use Rattle.nv_api_mark.specs.inside.Marking.{IsChunkTold, IsNoteTold}
use Rattle.nv_api_mark.proofs.details.push_note.Goals as goal

pub returns-clause-told : goal.returns-clause-told
returns-clause-told c = λ rest.
    let gs = c.args.groups.now in
    let olds = map pair_content c.args.fields.now.items in
    let n = c.in-Some.note.now in
    let parts : content c.in_ok-parts.parts ≡ array_of (map (chunk_told gs) n.chunks) =
    c.in_ok-parts.ensures.told ∙ ap (λ (cs : List Chunk). array_of (map (chunk_told gs) cs)) c.chunks-chunks.ensures in
    let word : c.place_word.result.now ≡ place_word n.at = c.place_word.ensures ∙ ap place_word c.at-at.ensures in
    let some : option_map (λ m. m.now) c.args.note ≡ Some n = ap (option_map (λ m. m.now)) c.in-Some.is in
    c.in_ok-put_text.ensures.told rest
    ∙ c.in_ok-put.ensures _
    ∙ (λ i. olds ++ key_value "virt_text" (parts i) ∷ key_value "virt_text_pos" (text (word i)) ∷ rest)
    ∙ ap (λ (note : Option NoteText). olds ++ (note_details gs note ++ rest)) (sym some)

pub returns-clause-spelled : goal.returns-clause-spelled
returns-clause-spelled c =
    let gs = c.args.groups.now in
    let some : option_map (λ m. m.now) c.args.note ≡ Some c.in-Some.note.now = ap (option_map (λ m. m.now)) c.in-Some.is in
    subst (IsNoteTold gs) (sym some)
    (subst (λ (cs : List Chunk). (length cs < 2 ^ 32) × All (IsChunkTold gs) cs) c.chunks-chunks.ensures c.in_ok-parts.ensures.short)
