-- Laws of edits and changes.
use Rattle.std.specs.Prelude.{◌≡◌, ℕ, ◌≤◌, List, fold, Some}
use Rattle.nv_undo.specs.Tree.{Undo, IsTree, last, change_of, pushed}
use Rattle.nv_buffer.specs.Splices.{IsBufferText}
use Rattle.nv_buffer.specs.Changes.{lines_after, inverse_edit, inverse_edits, Fits, AllFit, first_text, text_at}
use Rattle.nv_undo.specs.Ways.{origin}
use Rattle.nv_buffer.specs.Content.{Content, after_seal}
use Rattle.nv_buffer.specs.declared.edit.Edit.{Edit}

-- an edit and then its inverse leave the text as it was
abbrev pub InverseUndoes : Type 0
InverseUndoes = (text : List (List ℕ)) (edit : Edit) → Fits text edit
    → lines_after (lines_after text edit) (inverse_edit text edit) ≡ text

-- the inverse can be made, and its inverse is the edit
abbrev pub InverseFits : Type 0
InverseFits =
    (text : List (List ℕ)) (edit : Edit) → IsBufferText text → Fits text edit
    → Fits (lines_after text edit) (inverse_edit text edit)
    × (inverse_edit (lines_after text edit) (inverse_edit text edit) ≡ edit)

-- edits and then their inverses, the last one's first, leave the text as it was, and can be made
abbrev pub InversesUndo : Type 0
InversesUndo =
    (text : List (List ℕ)) (edits : List Edit) → IsBufferText text → AllFit text edits
    → AllFit (fold lines_after text edits) (inverse_edits text edits)
    × (fold lines_after (fold lines_after text edits) (inverse_edits text edits) ≡ text)

-- a buffer that was sealed stays as it is when it is sealed once more
abbrev pub SealedOnce : Type 0
SealedOnce = (buffer : Content) → after_seal (after_seal buffer) ≡ after_seal buffer

-- the text of 0 is the text at first, and that of a change is its parent's with its edits
abbrev pub TextsOfChanges : Type 0
TextsOfChanges =
    (undo : Undo (List Edit)) → IsTree undo
    → (text_at undo 0 ≡ first_text)
    × ((n : ℕ) (edits : List Edit) → change_of undo n ≡ Some edits
    → text_at undo n ≡ fold lines_after (text_at undo (origin undo n)) edits)

-- when a change is made all kept texts stay
abbrev pub TextsStay : Type 0
TextsStay =
    (undo : Undo (List Edit)) (edits : List Edit) (n : ℕ) → n ≤ last undo
    → text_at (pushed edits undo) n ≡ text_at undo n
