-- inside: steps of a call that decide what it answers.
use Rattle.std.specs.Prelude.{◌≡◌, ℕ, ℤ, Bool, not, ◌==◌, ◌&&◌, ⊤, List, [], ◌∷◌, length, slice_range, Result, Ok, Err}
use Rattle.std.specs.List.{list_any}
use Rattle.nv_value.specs.Content.{list, nil}
use Rattle.nv_msgpack.specs.Spelling.{unsigned_number}
use Rattle.nv_places.specs.Flat.{row_start}
use Rattle.nv_args.specs.Arguments.{row_of_index}
use Rattle.nv_args.specs.Faults.{newline_inside, no_id_left, out_of_bounds, name_in_use, not_modifiable, unsaved_changes, limit_reached}
use Rattle.nv_args.specs.Reading.{Arg, number_at}
use Rattle.nv_args.specs.Texts.{strings, has_newline, text_between}
use Rattle.nv_args.specs.Refusals.{CanBeTold}
use Rattle.nv_args.specs.declared.faults.Fail.{Fail}
use Rattle.nv_args.specs.declared.faults.Fail.TheVariants.{Api, NoMemory}
use Rattle.nv_model.specs.Buffers.{Splice, is_empty_splice}
use Rattle.nv_model.specs.Deleting.{no_buffer_left, least_other, dropping_operations}
use Rattle.nv_model.specs.Seen.{Seen, SeenBuffer}
use Rattle.nv_model.specs.Answers.{Answer, deleted, refused, replied, unless}
use Rattle.nv_model.specs.Answering.{reply_of}
use Rattle.nv_model.specs.declared.parts.Limits.{Limits}
use Rattle.nv_api_buf.specs.Texts.{is_no_index, splice_passes_limit}
use Rattle.nv_api_buf.specs.BufferRows.{buffers_are_full, is_taken}
use Rattle.nv_api_buf.specs.TextRows.{range_leaves, on_places}

-- a call is refused as is answered, or memory was wanting
abbrev pub IsRefused : Answer → Fail → Type 0
IsRefused answer (Api fault) = (answer ≡ refused fault) × CanBeTold fault
IsRefused answer NoMemory = ⊤

-- a step found what the answer goes on with, or refused as is answered, or memory was wanting
abbrev pub Leaves : {A : Type 0} → Answer → (A → Answer) → Result A Fail → Type 0
Leaves answer rest (Ok found) = answer ≡ rest found
Leaves answer rest (Err fail) = IsRefused answer fail

-- an answer, unless a splice of a buffer may not be made
abbrev pub unless_barred : Limits → SeenBuffer → Splice → Answer → Answer
unless_barred limits b s answer =
    unless (
    (not (is_empty_splice s) && not b.modifiable, not_modifiable)
    ∷ (splice_passes_limit limits b s, limit_reached)
    ∷ [])
    answer

-- an answer, unless a range of the second to the fourth argument leaves a text of so many lines
abbrev pub unless_outside : List Arg → ℕ → Answer → Answer
unless_outside args count answer = unless ((range_leaves args count, out_of_bounds) ∷ []) answer

-- an answer, unless one of the new lines holds a line feed
abbrev pub unless_newline : List (List ℕ) → Answer → Answer
unless_newline new answer = unless ((list_any has_newline new, newline_inside) ∷ []) answer

-- the offset at which the row begins that the second argument names
abbrev pub offset_answer : SeenBuffer → List Arg → Answer
offset_answer b args =
    unless ((is_no_index (number_at args 1) (length b.lines), out_of_bounds) ∷ [])
    (reply_of (unsigned_number (
    row_start b.lines (row_of_index (number_at args 1) (length b.lines)))))

-- the lines of a range, and the text between two places
abbrev pub lines_answer : SeenBuffer → List Arg → Answer
lines_answer b args =
    unless_outside args (length b.lines)
    (reply_of (list (strings (
    slice_range b.lines
    (row_of_index (number_at args 1) (length b.lines))
    (row_of_index (number_at args 2) (length b.lines))))))

abbrev pub text_answer : SeenBuffer → List Arg → Answer
text_answer b args =
    on_places b args (λ start stop. reply_of (list (strings (text_between b.lines start stop))))

-- an answer, unless a further buffer may not be made
abbrev pub unless_full : Seen → Answer → Answer
unless_full s answer =
    unless (
    (no_buffer_left s.stage, no_id_left)
    ∷ (buffers_are_full s, limit_reached)
    ∷ [])
    answer

-- an answer, unless a buffer may not be deleted
abbrev pub unless_kept : Seen → SeenBuffer → Bool → Answer → Answer
unless_kept s b forced answer =
    unless (
    (length s.handles == 1 && no_buffer_left s.stage, no_id_left)
    ∷ (b.modified && not forced, unsaved_changes)
    ∷ [])
    answer

-- a buffer is deleted
abbrev pub delete_answer : Seen → ℤ → Answer
delete_answer s n =
    replied nil (dropping_operations s.stage n (least_other s n)) (deleted n ∷ [])

-- an answer, unless a buffer may not have a name
abbrev pub unless_unnamed : Seen → ℤ → List ℕ → Answer → Answer
unless_unnamed s n name answer =
    unless (
    (has_newline name, newline_inside)
    ∷ (is_taken s n name, name_in_use)
    ∷ [])
    answer
