-- What a client that follows a buffer makes of the values that it is sent: the texts that it lists,
-- and the value that it stops at (own rules; the events are those of Neovim help
-- `api-buffer-updates`).
use Rattle.std.specs.Prelude.{ℕ, ◌+◌, ◌==◌, Bool, false, ℤ, List, [], ◌∷◌, ◌++◌, length, codes, decimal, bytes_eq, Option, Some, None, option_map, unwrap_or, if◌then◌else◌}
use Rattle.std.specs.Fmt.{signed_decimal}
use Rattle.std.specs.List.{list_any}
use Rattle.std.specs.Option.{option_or}
use Rattle.std.specs.Ordering.{int_eq}
use Rattle.nv_places.specs.Flat.{flat}
use Rattle.nv_value.specs.Content.{Tree}
use Rattle.nv_rpc.specs.Calls.{Call, request, notice, call_in}
use Rattle.nv_rpc.specs.Messages.{Sent, reply, lines_event, tick_event, detach_event, fault_event, lines_name, tick_name, detach_name, fault_name}
use Rattle.nv_rpc.specs.Received.{message_in}
use Rattle.nv_subs.specs.Mirrors.{Mirror, absent, mirror_after, mirror_lines, mirror_tick}

-- What a value is to a client: a message, a notification of another name, which is left out of
-- account, or neither.
pub data Received : Type 0 where
  message : Sent → Received
  other_notice : Received
  neither : Received

-- Whether a name is that of one of the events.
abbrev pub is_event_name : List ℕ → Bool
is_event_name name =
    list_any (bytes_eq name) (lines_name ∷ tick_name ∷ detach_name ∷ fault_name ∷ [])

-- What a value is that tells no message, by the call that it is.
abbrev pub received_as_call : Option Call → Received
received_as_call (Some (notice name params)) = if is_event_name name then neither else other_notice
received_as_call (Some (request msgid name params)) = neither
received_as_call None = neither

abbrev pub received_as : Option Sent → Option Call → Received
received_as (Some sent) call = message sent
received_as None call = received_as_call call

abbrev pub received_in : Tree → Received
received_in t = received_as (message_in t) (call_in t)

-- The messages of values, up to the first value that is neither.
abbrev pub messages_with : Received → List Sent → List Sent
messages_with (message sent) later = sent ∷ later
messages_with other_notice later = later
messages_with neither later = []

abbrev pub messages_in : List Tree → List Sent
messages_in [] = []
messages_in (t ∷ ts) = messages_with (received_in t) (messages_in ts)

-- ---- where a client stops

-- Why a client stops: its buffer sends no more events; its request was refused with this message;
-- the value of this number is an event that doesn't fit; or that value is neither a message nor a
-- notification.
pub data StopReason : Type 0 where
  buffer_detached : StopReason
  request_refused : List ℕ → StopReason
  unfit : ℕ → StopReason
  strange : ℕ → StopReason

-- The message of a refusal: the error of the reply to the request with msgid 1.
abbrev pub refusal_in : Sent → Option (List ℕ)
refusal_in (reply msgid (Some fault) result) = if msgid == 1 then Some fault.words else None
refusal_in (reply msgid None result) = None
refusal_in (lines_event about tick first last new) = None
refusal_in (tick_event about tick) = None
refusal_in (detach_event about) = None
refusal_in (fault_event fault) = None

-- Whether a message ends the events of a buffer.
abbrev pub is_detach_of : ℤ → Sent → Bool
is_detach_of buffer (detach_event about) = int_eq about buffer
is_detach_of buffer (reply msgid fault result) = false
is_detach_of buffer (lines_event about tick first last new) = false
is_detach_of buffer (tick_event about tick) = false
is_detach_of buffer (fault_event fault) = false

-- Whether a message tells lines of a buffer.
abbrev pub is_lines_of : ℤ → Sent → Bool
is_lines_of buffer (lines_event about tick first last new) = int_eq about buffer
is_lines_of buffer (reply msgid fault result) = false
is_lines_of buffer (tick_event about tick) = false
is_lines_of buffer (detach_event about) = false
is_lines_of buffer (fault_event fault) = false

-- An event that leaves no mirror doesn't fit.
abbrev pub stop_if_unfit : ℕ → Option Mirror → Option StopReason
stop_if_unfit number None = Some (unfit number)
stop_if_unfit number (Some mirror) = None

-- Where a client stops at a message, the value of this number, by its mirror before it.
abbrev pub stop_at : ℤ → ℕ → Mirror → Sent → Option StopReason
stop_at buffer number mirror sent =
    option_or (option_map request_refused (refusal_in sent))
    (if is_detach_of buffer sent then Some buffer_detached else
    stop_if_unfit number (mirror_after buffer mirror sent))

-- Its mirror after the message, where it goes on.
abbrev pub next_mirror : ℤ → Mirror → Sent → Mirror
next_mirror buffer mirror sent = unwrap_or (mirror_after buffer mirror sent) mirror

-- Where it stops at a value, or else at later ones.
abbrev pub stop_by : ℤ → ℕ → Mirror → Received → (Mirror → Option StopReason) → Option StopReason
stop_by buffer number mirror (message sent) later =
    option_or (stop_at buffer number mirror sent) (later (next_mirror buffer mirror sent))
stop_by buffer number mirror other_notice later = later mirror
stop_by buffer number mirror neither later = Some (strange number)

-- Where it stops at values, the first of which has this number.
abbrev pub stop_from : ℤ → ℕ → Mirror → List Tree → Option StopReason
stop_from buffer number mirror [] = None
stop_from buffer number mirror (t ∷ ts) =
    stop_by buffer number mirror (received_in t) (λ next. stop_from buffer (number + 1) next ts)

-- Where a client stops that was sent these values.
abbrev pub stop_in : ℤ → List Tree → Option StopReason
stop_in buffer values = stop_from buffer 0 absent values

-- ---- what a client lists

-- What goes before the lines of a text.
abbrev pub text_heading : ℤ → ℕ → List ℕ
text_heading tick count =
    codes "tick " ++ (signed_decimal tick ++ (codes " lines " ++ (decimal count ++ 10 ∷ [])))

-- What lines are listed as at a changedtick, where both are known.
abbrev pub text_known : Option (List (List ℕ)) → Option ℤ → List ℕ
text_known (Some lines) (Some tick) = text_heading tick (length lines) ++ flat lines
text_known (Some lines) None = []
text_known None tick = []

-- The text of a mirror that holds one.
abbrev pub text_listed : Mirror → List ℕ
text_listed mirror = text_known (mirror_lines mirror) (mirror_tick mirror)

-- What a message lists after which the mirror is this.
abbrev pub listed_by : ℤ → Sent → Mirror → List ℕ
listed_by buffer sent mirror = if is_lines_of buffer sent then text_listed mirror else []

-- What goes before later texts, where a client goes on.
abbrev pub listing_with : Option StopReason → List ℕ → List ℕ → List ℕ
listing_with None first later = first ++ later
listing_with (Some stop) first later = []

-- What messages list, by the mirror before them.
abbrev pub listing_from : ℤ → Mirror → List Sent → List ℕ
listing_from buffer mirror [] = []
listing_from buffer mirror (sent ∷ later) =
    listing_with (stop_at buffer 0 mirror sent)
    (listed_by buffer sent (next_mirror buffer mirror sent))
    (listing_from buffer (next_mirror buffer mirror sent) later)

-- What a client lists that was sent these messages.
abbrev pub listing : ℤ → List Sent → List ℕ
listing buffer messages = listing_from buffer absent messages
