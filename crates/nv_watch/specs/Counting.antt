-- How many requests sessions make, and how many replies they take (MessagePack-RPC specification).
use Rattle.std.specs.Prelude.{◌≡◌, ◌⊎◌, ℕ, ◌+◌, ◌==◌, ◌<◌, Bool, true, false, List, [], ◌∷◌, ◌++◌, slice_get, Option, Some, None, if◌then◌else◌}
use Rattle.nv_rpc.specs.Calls.{request, notice}
use Rattle.nv_rpc.specs.Messages.{Sent, reply, lines_event, tick_event, detach_event, fault_event}
use Rattle.nv_history.specs.Events.{Event, Entry, open_session, request_of, take_of, close_of}
use Rattle.nv_core.specs.Contents.{plain_entries}
use Rattle.nv_watch.specs.Verdicts.{Sight}
use Rattle.nv_watch.specs.SentParts.{is_whole_sent, messages_sent}

-- whether a message is a reply
abbrev pub is_reply : Sent → Bool
is_reply (reply msgid fault result) = true
is_reply (lines_event buffer tick first last lines) = false
is_reply (tick_event buffer tick) = false
is_reply (detach_event buffer) = false
is_reply (fault_event fault) = false

-- how many of messages are replies
abbrev pub replies_among : List Sent → ℕ
replies_among [] = 0
replies_among (m ∷ ms) = (if is_reply m then 1 else 0) + replies_among ms

-- how many replies a sight gives a session
abbrev pub replies_at : ℕ → Sight → ℕ
replies_at s x =
    if x.step.session == s then replies_among (messages_sent x.step.sent) else 0

-- whether an event is a request of a session; a notification is none
abbrev pub is_request_by : ℕ → Event → Bool
is_request_by s open_session = false
is_request_by s (request_of t (request msgid method params)) = t == s
is_request_by s (request_of t (notice method params)) = false
is_request_by s (take_of t) = false
is_request_by s (close_of t) = false

-- how many requests of a session an entry is, where it is there: one, or none
abbrev pub requests_of_entry : ℕ → Option Entry → ℕ
requests_of_entry s None = 0
requests_of_entry s (Some e) = if is_request_by s e.event then 1 else 0

-- and the entry of a step
abbrev pub requests_at : ℕ → Sight → ℕ
requests_at s x = requests_of_entry s (slice_get (plain_entries x.world.history) x.step.at)

-- over all sights
abbrev pub replies_seen : ℕ → List Sight → ℕ
replies_seen s [] = 0
replies_seen s (x ∷ xs) = replies_at s x + replies_seen s xs

abbrev pub requests_seen : ℕ → List Sight → ℕ
requests_seen s [] = 0
requests_seen s (x ∷ xs) = requests_at s x + requests_seen s xs

-- after a step its session has taken more replies than it made requests, or what it was sent isn't
-- whole messages and redraw notifications
abbrev pub HasReplyTooMany : List Sight → Sight → Type 0
HasReplyTooMany before x =
    (is_whole_sent x.step.sent ≡ false)
    ⊎ (requests_seen x.step.session (before ++ x ∷ [])
    < replies_seen x.step.session (before ++ x ∷ []))
