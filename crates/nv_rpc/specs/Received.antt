-- The message that a value tells: the way back from `message_tree`.
use Rattle.std.specs.Prelude.{ℕ, ◌≡◌, ◌^◌, ◌<◌, Bool, true, false, nat_lt, if◌then◌else◌, ℤ, pos, FitsSigned, List, bytes_eq, Option, Some, None, option_map, option_and_then}
use Rattle.std.specs.Int.{w64}
use Rattle.nv_value.specs.Content.{Tree, Trees, no_more, one, nil, truth, integer, text, list, ext}
use Rattle.nv_value.specs.declared.fault.ApiFault.{ApiFault}
use Rattle.nv_msgpack.specs.Handle.{handle_in, integer_of}
use Rattle.nv_msgpack.specs.Shortest.{shortest}
use Rattle.nv_rpc.specs.Steps.{◌>>=◌}
use Rattle.nv_rpc.specs.Calls.{is_number, msgid_in, params_in}
use Rattle.nv_rpc.specs.Messages.{Sent, reply, lines_event, tick_event, detach_event, fault_event, lines_name, tick_name, detach_name, fault_name, message_tree}

-- The number, where the bytes are its shortest spelling.
abbrev pub if_shortest : List ℕ → ℤ → Option ℤ
if_shortest bytes n = if bytes_eq bytes (shortest (integer n)) then Some n else None

-- The buffer whose handle a value is, in its shortest spelling (own rule).
abbrev pub buffer_in : Tree → Option ℤ
buffer_in (ext kind bytes) =
    option_and_then (if_shortest bytes) (handle_in (pos 0) (ext kind bytes))
buffer_in _ = None

-- The kind of an error, a number of one byte.
abbrev pub kind_in : Tree → Option ℕ
kind_in (integer (pos n)) = if nat_lt n 256 then Some n else None
kind_in _ = None

-- A string.
abbrev pub text_in : Tree → Option (List ℕ)
text_in (text bytes) = Some bytes
text_in _ = None

-- Whether a value is false.
abbrev pub is_false : Tree → Bool
is_false (truth false) = true
is_false _ = false

-- The error of a kind and a message, where they are that. Its code isn't sent, and is 0 here.
abbrev pub fault_in : Tree → Tree → Option ApiFault
fault_in kind words = do
  k ← kind_in kind
  w ← text_in words
  Some (record { kind = k; code = 0; words = w })

-- The error that a value is.
abbrev pub error_in : Tree → Option ApiFault
error_in (list (one kind (one words no_more))) = fault_in kind words
error_in _ = None

-- The reply of an error and a result, one of which is nil.
abbrev pub outcome_in : ℕ → Tree → Tree → Option Sent
outcome_in msgid nil result = Some (reply msgid None result)
outcome_in msgid cause nil = option_map (λ fault. reply msgid (Some fault) nil) (error_in cause)
outcome_in msgid cause result = None

-- The reply of a msgid, an error and a result.
abbrev pub reply_in : Tree → Tree → Tree → Option Sent
reply_in msgid cause result = do
  id ← msgid_in msgid
  outcome_in id cause result

-- The lines event of its arguments.
abbrev pub lines_in : Tree → Tree → Tree → Tree → Tree → Option Sent
lines_in buffer tick first last lines = do
  b ← buffer_in buffer
  t ← integer_of tick
  f ← integer_of first
  l ← integer_of last
  ls ← params_in lines
  Some (lines_event b t f l ls)

-- The changedtick event of its arguments.
abbrev pub tick_in : Tree → Tree → Option Sent
tick_in buffer tick = do
  b ← buffer_in buffer
  t ← integer_of tick
  Some (tick_event b t)

-- The event of two arguments.
abbrev pub event_of_two : List ℕ → Tree → Tree → Option Sent
event_of_two name a b =
    if bytes_eq name tick_name then tick_in a b else
    if bytes_eq name fault_name then option_map fault_event (fault_in a b) else
    None

-- The event of a name and arguments.
abbrev pub event_of : List ℕ → Trees → Option Sent
event_of name (one a (one b (one c (one d (one e (one more no_more)))))) =
    if is_false more then (if bytes_eq name lines_name then lines_in a b c d e else None) else None
event_of name (one a (one b no_more)) = event_of_two name a b
event_of name (one a no_more) =
    if bytes_eq name detach_name then option_map detach_event (buffer_in a) else None
event_of name _ = None

-- The event of a name and a list of arguments, where the two are that.
abbrev pub event_in : Tree → Tree → Option Sent
event_in name arguments = do
  n ← text_in name
  ts ← params_in arguments
  event_of n ts

-- The message that a value tells.
unfoldable pub message_in : Tree → Option Sent
message_in (list (one kind (one msgid (one cause (one result no_more))))) =
    if is_number (pos 1) kind then reply_in msgid cause result else None
message_in (list (one kind (one name (one arguments no_more)))) =
    if is_number (pos 2) kind then event_in name arguments else None
message_in _ = None

-- What a message tells: the code of an error isn't told, nor a result beside an error.
abbrev pub message_as_read : Sent → Sent
message_as_read (reply msgid None result) = reply msgid None result
message_as_read (reply msgid (Some fault) result) =
    reply msgid (Some (record fault { code = 0 })) nil
message_as_read (lines_event buffer tick first last lines) =
    lines_event buffer tick first last lines
message_as_read (tick_event buffer tick) = tick_event buffer tick
message_as_read (detach_event buffer) = detach_event buffer
message_as_read (fault_event fault) = fault_event (record fault { code = 0 })

-- What the types of a `Message` say: a msgid is an unsigned 32-bit number, the kind of an error one
-- byte, a buffer an i64.
abbrev pub IsTyped : Sent → Type 0
IsTyped (reply msgid None result) = msgid < 2 ^ 32
IsTyped (reply msgid (Some fault) result) = (msgid < 2 ^ 32) × (fault.kind < 256)
IsTyped (lines_event buffer tick first last lines) = FitsSigned w64 buffer
IsTyped (tick_event buffer tick) = FitsSigned w64 buffer
IsTyped (detach_event buffer) = FitsSigned w64 buffer
IsTyped (fault_event fault) = fault.kind < 256

-- The value of a message tells that message.
abbrev pub ToldIsRead : Type 0
ToldIsRead = (s : Sent) → IsTyped s → message_in (message_tree s) ≡ Some (message_as_read s)

-- A value that tells a message is that message's value, and no other message's but for what isn't
-- told.
abbrev pub ReadIsTold : Type 0
ReadIsTold =
    (t : Tree) (s : Sent) → message_in t ≡ Some s → (message_tree s ≡ t) × (message_as_read s ≡ s)
