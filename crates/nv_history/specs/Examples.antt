-- Worked examples: what sessions are told, computed by the definitions.
use Rattle.std.specs.Prelude.{◌≡◌, ℕ, zero, suc, ◌+◌, pos, negsuc, true, false, List, [], ◌∷◌, ◌++◌, codes, Option, Some, None, option_map, map}
use Rattle.nv_value.specs.Content.{Tree, nil, truth, pairs, in_turn, trees_of}
use Rattle.nv_rpc.specs.Calls.{Call, request, notice}
use Rattle.nv_rpc.specs.Messages.{Sent, reply, lines_event, tick_event, detach_event, fault_event, buffer_handle}
use Rattle.nv_args.specs.Texts.{strings}
use Rattle.nv_model.specs.declared.parts.Limits.{Limits}
use Rattle.nv_dispatch.specs.Runs.{NamedCall, usual_limits}
use Rattle.nv_dispatch.specs.Worked.{int, str, array_value, no_keys, call, set_all_lines, run_command}
use Rattle.nv_subs.specs.Mirrors.{holding, mirror_of}
use Rattle.nv_history.specs.Events.{Event, open_session, request_of, take_of, close_of, Entry, Cause, overflowed_at, quit_at, gone_by, held_with, over}
use Rattle.nv_history.specs.Worlds.{Outcome, refuses, idles, session_of, step}
use Rattle.nv_history.specs.Runs.{TakenBatch, run, out, due}
use Rattle.nv_history.specs.Texts.{lines_at_tick}
use Rattle.nv_history.specs.Solo.{entry_alone, solo}

-- a call as a request and as a notification
abbrev pub asked_as : ℕ → NamedCall → Call
asked_as msgid c = request msgid c.name (trees_of c.given)

abbrev pub noticed : NamedCall → Call
noticed c = notice c.name (trees_of c.given)

-- events as entries of one caller
abbrev pub history_by_one : List Event → List Entry
history_by_one [] = []
history_by_one (event ∷ events) = entry_alone event ∷ history_by_one events

-- the messages of batches, batch by batch
abbrev pub messages_by_batch : List TakenBatch → List (List Sent)
messages_by_batch batches = map (λ batch. batch.messages) batches

-- the history of calls of a session alone, and what it is given
abbrev pub usual_solo : List Call → List Entry
usual_solo calls = solo 4096 usual_limits calls

abbrev pub given_alone : List Call → List (List Sent)
given_alone calls = messages_by_batch (out 4096 usual_limits 1 (usual_solo calls))

-- what an event comes to after a history
abbrev pub outcome_behind : ℕ → Limits → List Entry → Event → Option Outcome
outcome_behind capacity limits history event =
    option_map (λ w. step w event) (run capacity limits history)

-- what closed a session
abbrev pub closing_cause : ℕ → Limits → List Entry → ℕ → Option (Option (Option Cause))
closing_cause capacity limits history s =
    option_map (λ w. option_map (λ x. x.closed) (session_of w s)) (run capacity limits history)

-- the lines event of buffer 1 with these numbers
abbrev pub told_lines : ℕ → ℕ → ℕ → List (List ℕ) → Sent
told_lines tick first last lines =
    lines_event (pos 1) (pos tick) (pos first) (pos last) (strings lines)

-- all its lines, as they are sent first
abbrev pub told_all_lines : ℕ → List (List ℕ) → Sent
told_all_lines tick lines =
    lines_event (pos 1) (pos tick) (pos 0) (negsuc 0) (strings lines)

abbrev pub line_count : NamedCall
line_count = call "nvim_buf_line_count" (int 0 ∷ [])

abbrev pub attach_buffer : ℕ → Tree → NamedCall
attach_buffer n sends = call "nvim_buf_attach" (int n ∷ sends ∷ no_keys ∷ [])

-- one request: it is opened, asks, takes the reply and closes
unfoldable pub LineCount : Type 0
LineCount =
    (usual_solo (asked_as 1 line_count ∷ [])
    ≡ history_by_one (open_session ∷ request_of 1 (asked_as 1 line_count) ∷ take_of 1 ∷ close_of 1
    ∷ []))
    × (given_alone (asked_as 1 line_count ∷ []) ≡ (reply 1 None (int 1) ∷ []) ∷ [])

-- the end of the editor closes the session: nothing that comes behind it is asked
abbrev quit_calls : List Call
quit_calls = asked_as 1 (run_command "qall!") ∷ asked_as 2 line_count ∷ []

unfoldable pub QuitAll : Type 0
QuitAll =
    (usual_solo quit_calls
    ≡ history_by_one (open_session ∷ request_of 1 (asked_as 1 (run_command "qall!")) ∷ take_of 1
    ∷ []))
    × (given_alone quit_calls ≡ (reply 1 None nil ∷ []) ∷ [])
    × (closing_cause 4096 usual_limits (usual_solo quit_calls) 1 ≡ Some (Some (Some (quit_at 1))))

-- an attachment with the lines, and then calls in one, each splice an event of its own
abbrev following_in_one : List Call
following_in_one =
    asked_as 1 (attach_buffer 0 (truth true))
    ∷ asked_as 2 (call "nvim_call_atomic" (
    array_value (
    array_value (str "nvim_buf_set_lines"
    ∷ array_value (int 0 ∷ int 0 ∷ int 0 ∷ truth true ∷ array_value (str "a" ∷ []) ∷ []) ∷ [])
    ∷ array_value (str "nvim_buf_set_lines"
    ∷ array_value (int 0 ∷ int 1 ∷ int 2 ∷ truth true ∷ array_value (str "b" ∷ []) ∷ []) ∷ [])
    ∷ array_value (str "nvim_nope" ∷ array_value [] ∷ [])
    ∷ [])
    ∷ []))
    ∷ []

unfoldable pub AttachAtomic : Type 0
AttachAtomic =
    (given_alone following_in_one
    ≡ (told_all_lines 2 ([] ∷ []) ∷ reply 1 None (truth true) ∷ [])
    ∷ (told_lines 3 0 0 (codes "a" ∷ []) ∷ told_lines 4 1 2 (codes "b" ∷ [])
    ∷ reply 2 None (array_value (array_value (nil ∷ nil ∷ [])
    ∷ array_value (int 2 ∷ int 0 ∷ str "Invalid method: nvim_nope" ∷ []) ∷ []))
    ∷ [])
    ∷ [])
    × (mirror_of (pos 1) (due 4096 usual_limits 1 (usual_solo following_in_one))
    ≡ Some (holding (codes "a" ∷ codes "b" ∷ []) (pos 4)))

-- an attachment without the lines, again, its end, and one with the lines
unfoldable pub AttachTicking : Type 0
AttachTicking =
    given_alone (
    asked_as 1 (attach_buffer 0 (truth false))
    ∷ asked_as 2 (attach_buffer 0 (truth false))
    ∷ asked_as 3 (call "nvim_buf_detach" (int 0 ∷ []))
    ∷ asked_as 4 (attach_buffer 0 (truth true))
    ∷ [])
    ≡ (tick_event (pos 1) (pos 2) ∷ reply 1 None (truth true) ∷ [])
    ∷ (reply 2 None (truth true) ∷ [])
    ∷ (detach_event (pos 1) ∷ reply 3 None (truth true) ∷ [])
    ∷ (told_all_lines 2 ([] ∷ []) ∷ reply 4 None (truth true) ∷ [])
    ∷ []

-- a notification isn't answered, but for its fault
unfoldable pub Notifications : Type 0
Notifications =
    (usual_solo (noticed line_count ∷ [])
    ≡ history_by_one (open_session ∷ request_of 1 (noticed line_count) ∷ close_of 1 ∷ []))
    × (given_alone (noticed (call "nvim_nope" []) ∷ [])
    ≡ (fault_event (record { kind = 0; code = 1; words = codes "Invalid method: nvim_nope" })
    ∷ [])
    ∷ [])

-- a deleted buffer: its events end, and its text stays what it was
abbrev deleting_calls : List Call
deleting_calls =
    asked_as 1 (call "nvim_create_buf" (truth true ∷ truth false ∷ []))
    ∷ asked_as 2 (attach_buffer 2 (truth true))
    ∷ asked_as 3 (call "nvim_buf_set_lines" (int 2 ∷ int 0 ∷ int 1 ∷ truth true
    ∷ array_value (str "z" ∷ []) ∷ []))
    ∷ asked_as 4 (call "nvim_buf_delete" (int 2
    ∷ pairs (in_turn ((str "force", truth true) ∷ [])) ∷ []))
    ∷ []

unfoldable pub DeletedBuffer : Type 0
DeletedBuffer =
    (given_alone deleting_calls
    ≡ (reply 1 None (buffer_handle (pos 2)) ∷ [])
    ∷ (lines_event (pos 2) (pos 2) (pos 0) (negsuc 0) (strings ([] ∷ []))
    ∷ reply 2 None (truth true) ∷ [])
    ∷ (lines_event (pos 2) (pos 3) (pos 0) (pos 1) (strings (codes "z" ∷ []))
    ∷ reply 3 None nil ∷ [])
    ∷ (detach_event (pos 2) ∷ reply 4 None nil ∷ [])
    ∷ [])
    × (option_map (λ w. lines_at_tick w.editor (pos 2) 3)
    (run 4096 usual_limits (usual_solo deleting_calls))
    ≡ Some (codes "z" ∷ []))

-- ---- outboxes of 16 messages

-- a session puts all lines so many times, and takes after each
abbrev edits_with_takes : ℕ → List Event
edits_with_takes zero = []
edits_with_takes (suc n) =
    request_of 1 (asked_as 1 (set_all_lines (str "a" ∷ []))) ∷ take_of 1 ∷ edits_with_takes n

-- the events of such splices
abbrev edits_told : ℕ → ℕ → List Sent
edits_told tick zero = []
edits_told tick (suc n) = told_lines tick 0 1 (codes "a" ∷ []) ∷ edits_told (tick + 1) n

-- session 2 attaches and takes what that tells; session 1 makes 17 edits, which session 2 doesn't
-- take: the last one of them closes it
abbrev overflowing : List Entry
overflowing = history_by_one (
    open_session ∷ open_session ∷ request_of 2 (asked_as 1 (attach_buffer 0 (truth false)))
    ∷ take_of 2 ∷ edits_with_takes 17)

unfoldable pub OutboxOverflow : Type 0
OutboxOverflow =
    (messages_by_batch (out 16 usual_limits 2 (overflowing ++ history_by_one (take_of 2 ∷ [])))
    ≡ (tick_event (pos 1) (pos 2) ∷ reply 1 None (truth true) ∷ []) ∷ edits_told 3 16 ∷ [])
    × (outcome_behind 16 usual_limits (overflowing ++ history_by_one (take_of 2 ∷ [])) (take_of 2)
    ≡ Some (idles (over (overflowed_at 36))))
    × (outcome_behind 16 usual_limits overflowing (request_of 2 (asked_as 2 line_count))
    ≡ Some (refuses (gone_by 36)))

-- eight requests without a take, and the ninth is held
abbrev asking : ℕ → List Event
asking zero = []
asking (suc n) = request_of 1 (asked_as 1 line_count) ∷ asking n

unfoldable pub Held : Type 0
Held =
    outcome_behind 16 usual_limits (history_by_one (open_session ∷ asking 8))
    (request_of 1 (asked_as 1 line_count))
    ≡ Some (refuses (held_with 8))

-- ---- the last entry that the limits allow ends the editor
abbrev three_entries : Limits
three_entries = record usual_limits { entries = 3 }

unfoldable pub LastEntry : Type 0
LastEntry =
    (solo 16 three_entries (asked_as 1 line_count ∷ asked_as 2 line_count ∷ [])
    ≡ history_by_one (open_session ∷ request_of 1 (asked_as 1 line_count) ∷ take_of 1 ∷ []))
    × (closing_cause 16 three_entries
    (history_by_one (open_session ∷ request_of 1 (asked_as 1 line_count) ∷ take_of 1 ∷ [])) 1
    ≡ Some (Some (Some (quit_at 2))))
