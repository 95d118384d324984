-- A session, and what it hears of a call (help: api-buffer-updates; own rule: outboxes).
use Rattle.std.specs.Prelude.{ℕ, ℤ, pos, negsuc, ◌+◌, ◌==◌, Bool, true, false, not, List, [], ◌∷◌, ◌++◌, length, filter, Option, Some, None, Result, Ok, Err}
use Rattle.std.specs.List.{list_any}
use Rattle.std.specs.Ordering.{int_eq}
use Rattle.nv_value.specs.Content.{Tree, nil}
use Rattle.nv_value.specs.declared.fault.ApiFault.{ApiFault}
use Rattle.nv_rpc.specs.Calls.{Call, request, notice}
use Rattle.nv_rpc.specs.Messages.{Sent, reply, lines_event, tick_event, detach_event, fault_event}
use Rattle.nv_args.specs.Texts.{strings}
use Rattle.nv_buffer.specs.declared.buffer.Spliced.{Spliced}
use Rattle.nv_model.specs.Answers.{Fact, attached, detached, edited, deleted, quit}
use Rattle.nv_history.specs.Events.{Cause, overflowed_at, quit_at}

-- ---- what is told

-- the first event of a buffer: its lines, where they are sent, or its changedtick (help:
-- nvim_buf_attach())
abbrev pub first_message : ℤ → ℕ → Option (List (List ℕ)) → Sent
first_message n tick None = tick_event n (pos tick)
first_message n tick (Some lines) = lines_event n (pos tick) (pos 0) (negsuc 0) (strings lines)

-- the event of a splice of a buffer (help: nvim_buf_lines_event)
abbrev pub splice_message : ℤ → Spliced → Sent
splice_message n told =
    lines_event n told.tick (pos told.edit.first) (pos told.edit.last) (strings told.edit.lines)

-- what answers a call: a request is replied to, and of a notification its fault alone is told
-- (help: nvim_error_event)
abbrev pub reply_message : Call → Result Tree ApiFault → Option Sent
reply_message (request msgid name args) (Ok result) = Some (reply msgid None result)
reply_message (request msgid name args) (Err fault) = Some (reply msgid (Some fault) nil)
reply_message (notice name args) (Ok result) = None
reply_message (notice name args) (Err fault) = Some (fault_event fault)

-- whether facts tell that the editor ends
abbrev pub is_quit : Fact → Bool
is_quit quit = true
is_quit _ = false

abbrev pub has_quit : List Fact → Bool
has_quit facts = list_any is_quit facts

-- ---- a session

-- a session: the buffers that it is attached to, the messages that wait for it, what closed it,
-- where it is closed, and the stamp of the world when its UI was last given the editor to show, 0
-- where it never was
pub record Session : Type 0 where
  pub following : List ℤ
  pub waiting : List Sent
  pub closed : Option Cause
  pub shown : ℕ

abbrev pub fresh_session : Session
fresh_session = record { following = []; waiting = []; closed = None; shown = 0 }

-- whether a session is attached to a buffer
abbrev pub follows : ℤ → Session → Bool
follows n x = list_any (λ k. int_eq k n) x.following

-- a session once it is attached to a buffer, and once it no longer is
abbrev pub with_following : ℤ → Session → Session
with_following n x = record x { following = n ∷ x.following }

abbrev pub without_following : ℤ → Session → Session
without_following n x = record x { following = filter (λ k. not (int_eq k n)) x.following }

-- a session once it is closed: it is attached to no buffer, and what waits stays
abbrev pub session_closed_by : Cause → Session → Session
session_closed_by cause x = record x { following = []; closed = Some cause }

-- the stamp that a session was shown once it took: where it was given the editor, that of the world
abbrev pub shown_after : Bool → ℕ → ℕ → ℕ
shown_after true stamp before = stamp
shown_after false stamp before = before

-- a session once what waits was taken, and it was last shown this stamp
abbrev pub session_emptied : ℕ → Session → Session
session_emptied stamp x = record x { waiting = []; shown = stamp }

-- a session once a message became due to it: where its outbox is full the entry of number `at`
-- closes it, and the message isn't put
abbrev pub session_with_message : Bool → ℕ → Sent → Session → Session
session_with_message true at message x = session_closed_by (overflowed_at at) x
session_with_message false at message x = record x { waiting = x.waiting ++ message ∷ [] }

abbrev pub session_told : ℕ → ℕ → Sent → Session → Session
session_told at capacity message x =
    session_with_message (length x.waiting == capacity) at message x

-- a session that is told where this holds
abbrev pub session_told_if : Bool → ℕ → ℕ → Sent → Session → Session
session_told_if true at capacity message x = session_told at capacity message x
session_told_if false at capacity message x = x

-- its own call attaches it to a buffer, where it wasn't: `own` and `there` say whether it was
abbrev pub session_joined : Bool → Bool → ℕ → ℕ → ℤ → Sent → Session → Session
session_joined true false at capacity n message x =
    session_told at capacity message (with_following n x)
session_joined true true at capacity n message x = x
session_joined false there at capacity n message x = x

-- it is no longer attached to a buffer, where it was
abbrev pub session_parted : Bool → ℕ → ℕ → ℤ → Session → Session
session_parted true at capacity n x =
    session_told at capacity (detach_event n) (without_following n x)
session_parted false at capacity n x = x

abbrev pub session_parted_if : Bool → Bool → ℕ → ℕ → ℤ → Session → Session
session_parted_if true there at capacity n x = session_parted there at capacity n x
session_parted_if false there at capacity n x = x

-- a session that isn't closed hears a fact of the entry of number `at`; `own` says whether the call
-- was its own
abbrev pub open_session_hears : ℕ → ℕ → Bool → Fact → Session → Session
open_session_hears at capacity own (attached n tick whole) x =
    session_joined own (follows n x) at capacity n (first_message n tick whole) x
open_session_hears at capacity own (detached n) x =
    session_parted_if own (follows n x) at capacity n x
open_session_hears at capacity own (edited n told) x =
    session_told_if (follows n x) at capacity (splice_message n told) x
open_session_hears at capacity own (deleted n) x = session_parted (follows n x) at capacity n x
open_session_hears at capacity own quit x = x

-- what a session becomes where it isn't closed, and else it stays
abbrev pub unless_closed : Option Cause → Session → Session → Session
unless_closed None later x = later
unless_closed (Some cause) later x = x

abbrev pub session_hears : ℕ → ℕ → Bool → Fact → Session → Session
session_hears at capacity own fact x =
    unless_closed x.closed (open_session_hears at capacity own fact x) x

abbrev pub session_hears_all : ℕ → ℕ → Bool → List Fact → Session → Session
session_hears_all at capacity own [] x = x
session_hears_all at capacity own (fact ∷ facts) x =
    session_hears_all at capacity own facts (session_hears at capacity own fact x)

-- a session is told what answers its own call
abbrev pub session_replied : Bool → ℕ → ℕ → Option Sent → Session → Session
session_replied true at capacity (Some message) x =
    unless_closed x.closed (session_told at capacity message x) x
session_replied true at capacity None x = x
session_replied false at capacity message x = x

-- the end of the editor closes each session that isn't closed
abbrev pub session_quit : ℕ → Session → Session
session_quit at x = unless_closed x.closed (session_closed_by (quit_at at) x) x

abbrev pub session_quit_if : Bool → ℕ → Session → Session
session_quit_if true at x = session_quit at x
session_quit_if false at x = x

-- a session after a call: each fact, then what answers the call where it is its own, and then the
-- end of the editor
abbrev pub session_after_call : ℕ → ℕ → Bool → List Fact → Option Sent → Session → Session
session_after_call at capacity own facts answer x =
    session_quit_if (has_quit facts) at
    (session_replied own at capacity answer (session_hears_all at capacity own facts x))

-- the sessions after a call of the session of number `caller`, the first of them of number `k`
abbrev pub sessions_after_call : ℕ → ℕ → ℕ → ℕ → List Fact → Option Sent → List Session
    → List Session
sessions_after_call at capacity caller k facts answer [] = []
sessions_after_call at capacity caller k facts answer (x ∷ xs) =
    session_after_call at capacity (k == caller) facts answer x
    ∷ sessions_after_call at capacity caller (k + 1) facts answer xs
