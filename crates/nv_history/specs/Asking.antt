-- Entries of a history: those of a caller, and those of a session (own rule).
use Rattle.std.specs.Prelude.{ℕ, ◌+◌, ◌==◌, Bool, true, false, List, [], ◌∷◌, filter, flat_map}
use Rattle.nv_rpc.specs.Calls.{Call}
use Rattle.nv_history.specs.Events.{Event, open_session, request_of, take_of, close_of, Entry}

-- the entries of a caller, in order
abbrev pub own : ℕ → List Entry → List Entry
own caller entries = filter (λ e. e.caller == caller) entries

-- the takes of a session
abbrev pub is_take_of : ℕ → Event → Bool
is_take_of s open_session = false
is_take_of s (request_of t call) = false
is_take_of s (take_of t) = t == s
is_take_of s (close_of t) = false

abbrev pub takes_by : ℕ → List Entry → List Entry
takes_by s entries = filter (λ e. is_take_of s e.event) entries

-- whether an event is one of a session, and no take; so many sessions were opened before it
abbrev pub is_asked_by : ℕ → ℕ → Event → Bool
is_asked_by s before open_session = before + 1 == s
is_asked_by s before (request_of t call) = t == s
is_asked_by s before (take_of t) = false
is_asked_by s before (close_of t) = t == s

-- how many sessions were opened after an event, and after entries, where so many were before
abbrev pub count_opened : ℕ → Event → ℕ
count_opened before open_session = before + 1
count_opened before (request_of t call) = before
count_opened before (take_of t) = before
count_opened before (close_of t) = before

abbrev pub opened_in : ℕ → List Entry → ℕ
opened_in before [] = before
opened_in before (e ∷ es) = opened_in (count_opened before e.event) es

abbrev pub entry_if : Bool → Entry → List Entry → List Entry
entry_if true e es = e ∷ es
entry_if false e es = es

abbrev pub asked_from : ℕ → ℕ → List Entry → List Entry
asked_from s before [] = []
asked_from s before (e ∷ es) =
    entry_if (is_asked_by s before e.event) e (asked_from s (count_opened before e.event) es)

-- the entries of a session but its takes, in order: its opening is the one that makes as many
-- sessions as its number says
abbrev pub asked : ℕ → List Entry → List Entry
asked s history = asked_from s 0 history

-- the calls that an event is of a session, and those of entries in order
abbrev pub call_if : Bool → Call → List Call
call_if true call = call ∷ []
call_if false call = []

abbrev pub calls_in : ℕ → Event → List Call
calls_in s open_session = []
calls_in s (request_of t call) = call_if (t == s) call
calls_in s (take_of t) = []
calls_in s (close_of t) = []

abbrev pub calls_of : ℕ → List Entry → List Call
calls_of s entries = flat_map (λ e. calls_in s e.event) entries
