-- The methods on buffers as a whole: making, deleting, naming and listing them, and telling of them
-- (help: api-buffer; the help tag of each is its name).
use Rattle.std.specs.Prelude.{ℕ, ℤ, ◌==◌, Bool, true, false, not, ◌&&◌, nat_le, List, [], ◌∷◌, length, map, codes, Some, None, is_some, if◌then◌else◌}
use Rattle.std.specs.List.{list_any}
use Rattle.nv_value.specs.Content.{nil, truth, text}
use Rattle.nv_rpc.specs.Messages.{buffer_handle}
use Rattle.nv_args.specs.Faults.{newline_inside, no_id_left, name_in_use, unsaved_changes, limit_reached}
use Rattle.nv_args.specs.Arguments.{last_pairs}
use Rattle.nv_args.specs.Reading.{Arg, number_at, flag_at, string_at, pairs_at}
use Rattle.nv_args.specs.Texts.{has_newline}
use Rattle.nv_args.specs.Maps.{map_fault}
use Rattle.nv_windows.specs.Workspace.{current_buffer, current_window}
use Rattle.nv_model.specs.Stage.{or_current}
use Rattle.nv_model.specs.Seen.{Seen, is_name_of}
use Rattle.nv_model.specs.Operations.{name_put, buffer_made, shown}
use Rattle.nv_model.specs.Deleting.{no_buffer_left, other_handles, least_other, dropping_operations}
use Rattle.nv_model.specs.Answers.{Answer, attached, detached, deleted, replied, unless, on_buffer}
use Rattle.nv_model.specs.Answering.{reply_of, fault_or, array_of}
use Rattle.nv_args.specs.Dicts.{flag_key, flag_or}

-- whether a further buffer would pass the limit
abbrev pub buffers_are_full : Seen → Bool
buffers_are_full s = nat_le s.stage.limits.buffers (length s.handles)

-- nvim_list_bufs(): the live buffers, rising
abbrev pub nvim_list_bufs : Seen → ℕ → List Arg → Answer
nvim_list_bufs s session args = reply_of (array_of (map buffer_handle s.handles))

-- nvim_get_current_buf(): the buffer of the current window
abbrev pub nvim_get_current_buf : Seen → ℕ → List Arg → Answer
nvim_get_current_buf s session args = reply_of (buffer_handle (current_buffer s.stage.workspace))

-- nvim_set_current_buf(buffer): the current window shows it, at row 0
abbrev pub nvim_set_current_buf : Seen → ℕ → List Arg → Answer
nvim_set_current_buf s session args = on_buffer s (number_at args 0) (λ n b.
    replied nil (shown (current_window s.stage.workspace) n ∷ []) [])

-- nvim_create_buf(listed, scratch): a new empty buffer; `scratch` has no effect (own rule)
abbrev pub nvim_create_buf : Seen → ℕ → List Arg → Answer
nvim_create_buf s session args =
    unless (
    (no_buffer_left s.stage, no_id_left)
    ∷ (buffers_are_full s, limit_reached)
    ∷ [])
    (replied (buffer_handle s.stage.next_buffer) (buffer_made (flag_at args 0) ∷ []) [])

-- nvim_buf_delete(buffer, opts): key `force`; a modified buffer needs it (own rule: a buffer is
-- deleted whole, and another one may have to be made for its windows)
abbrev pub nvim_buf_delete : Seen → ℕ → List Arg → Answer
nvim_buf_delete s session args = on_buffer s (number_at args 0) (λ n b.
    fault_or (map_fault (flag_key (codes "force") ∷ []) (last_pairs (pairs_at args 1))) (
    unless (
    (length s.handles == 1 && no_buffer_left s.stage, no_id_left)
    ∷ (
      b.modified && not (flag_or false (codes "force") (last_pairs (pairs_at args 1))),
      unsaved_changes,
    )
    ∷ [])
    (replied nil (dropping_operations s.stage n (least_other s n)) (deleted n ∷ []))))

-- nvim_buf_is_valid(buffer): whether a buffer of this handle is live
abbrev pub nvim_buf_is_valid : Seen → ℕ → List Arg → Answer
nvim_buf_is_valid s session args =
    reply_of (truth (is_some (s.buffer (or_current (current_buffer s.stage.workspace)
    (number_at args 0)))))

-- nvim_buf_get_name(buffer): the name as it was given
abbrev pub nvim_buf_get_name : Seen → ℕ → List Arg → Answer
nvim_buf_get_name s session args = on_buffer s (number_at args 0) (λ n b. reply_of (text b.name))

-- whether a live buffer but this one has this name, which isn't empty
abbrev pub is_taken : Seen → ℤ → List ℕ → Bool
is_taken s n name =
    not (length name == 0)
    && list_any (λ k. is_name_of name (s.buffer k)) (other_handles n s.handles)

-- nvim_buf_set_name(buffer, name): the name, which no other buffer has unless it is empty
abbrev pub nvim_buf_set_name : Seen → ℕ → List Arg → Answer
nvim_buf_set_name s session args = on_buffer s (number_at args 0) (λ n b.
    unless (
    (has_newline (string_at args 1), newline_inside)
    ∷ (is_taken s n (string_at args 1), name_in_use)
    ∷ [])
    (replied nil (name_put n (string_at args 1) ∷ []) []))

-- nvim_buf_attach(buffer, send_buffer, opts): the session is told of the buffer's splices, and
-- first its lines where `send_buffer` is true, else its changedtick
abbrev pub nvim_buf_attach : Seen → ℕ → List Arg → Answer
nvim_buf_attach s session args = on_buffer s (number_at args 0) (λ n b.
    fault_or (map_fault [] (last_pairs (pairs_at args 2)))
    (replied (truth true) []
    (attached n b.tick (if flag_at args 1 then Some b.lines else None) ∷ [])))

-- nvim_buf_detach(buffer): the session is no longer told of the buffer
abbrev pub nvim_buf_detach : Seen → ℕ → List Arg → Answer
nvim_buf_detach s session args =
    on_buffer s (number_at args 0) (λ n b. replied (truth true) [] (detached n ∷ []))
