-- What a value of a book tells: the way back from the values of `Books`.
use Rattle.std.specs.Prelude.{ℕ, pos, ◌^◌, ◌==◌, nat_lt, nat_le, Bool, true, false, ◌&&◌, if◌then◌else◌, List, [], ◌∷◌, bytes_eq, Option, Some, None, option_map, option_and_then}
use Rattle.std.specs.Option.{option_or}
use Rattle.nv_value.specs.Content.{Tree, Trees, no_more, one, nil, integer, big, text, list}
use Rattle.nv_rpc.specs.Steps.{◌>>=◌}
use Rattle.nv_rpc.specs.Calls.{Call, request, notice, params_in}
use Rattle.nv_rpc.specs.Received.{text_in}
use Rattle.nv_history.specs.Events.{Event, open_session, request_of, take_of, close_of, Entry}
use Rattle.nv_book.specs.Books.{book_name}
use Rattle.nv_world.specs.declared.world.TheConstants.{LEAST_OUTBOX, MOST_OUTBOX}

-- an entry, and of how many pieces its output is
pub record Heading : Type 0 where
  pub entry : Entry
  pub count : ℕ

-- an unsigned number of 64 bits, in the one tree that is its own; and one of 32 bits
abbrev pub unsigned_in : Tree → Option ℕ
unsigned_in (integer (pos n)) = if nat_lt n (2 ^ 63) then Some n else None
unsigned_in (big n) = if nat_lt n (2 ^ 63) then None else Some n
unsigned_in _ = None

abbrev pub if_small : ℕ → Option ℕ
if_small n = if nat_lt n (2 ^ 32) then Some n else None

abbrev pub unsigned32_in : Tree → Option ℕ
unsigned32_in t = option_and_then if_small (unsigned_in t)

-- whether a value is a string of this one letter, and of these
abbrev pub is_text : List ℕ → Tree → Bool
is_text wanted (text bytes) = bytes_eq bytes wanted
is_text wanted _ = false

abbrev pub is_letter : ℕ → Tree → Bool
is_letter code t = is_text (code ∷ []) t

abbrev pub heading : ℕ → ℕ → Event → Heading
heading caller count event =
    record { entry = record { caller = caller; event = event }; count = count }

-- a call of a method: a request where it has a msgid, and a notification where that is nil
abbrev pub call_in_parts : Tree → List ℕ → Trees → Option Call
call_in_parts nil method params = Some (notice method params)
call_in_parts msgid method params = do
  id ← unsigned32_in msgid
  Some (request id method params)

abbrev pub opening_in : Tree → Option Heading
opening_in caller = do
  c ← unsigned32_in caller
  Some (heading c 0 open_session)

abbrev pub closing_in : Tree → Tree → Option Heading
closing_in caller session = do
  c ← unsigned32_in caller
  s ← unsigned_in session
  Some (heading c 0 (close_of s))

abbrev pub taking_in : Tree → Tree → Tree → Option Heading
taking_in caller session count = do
  c ← unsigned32_in caller
  s ← unsigned_in session
  n ← unsigned_in count
  Some (heading c n (take_of s))

abbrev pub asking_in : Tree → Tree → Tree → Tree → Tree → Option Heading
asking_in caller session msgid method params = do
  c ← unsigned32_in caller
  s ← unsigned_in session
  m ← text_in method
  ps ← params_in params
  call ← call_in_parts msgid m ps
  Some (heading c 0 (request_of s call))

-- the entry of a call that a value tells
unfoldable pub asked_in : Tree → Option Heading
asked_in (list (one kind (one caller (one session
    (one msgid (one method (one params no_more))))))) =
    if is_letter 114 kind then asking_in caller session msgid method params else None
asked_in _ = None

-- the entry of an opening, a close or a take that a value tells
unfoldable pub short_in : Tree → Option Heading
short_in (list (one kind (one caller no_more))) =
    if is_letter 111 kind then opening_in caller else None
short_in (list (one kind (one caller (one session no_more)))) =
    if is_letter 99 kind then closing_in caller session else None
short_in (list (one kind (one caller (one session (one count no_more))))) =
    if is_letter 116 kind then taking_in caller session count else None
short_in _ = None

-- the entry that a value tells
abbrev pub heading_in : Tree → Option Heading
heading_in t = option_or (short_in t) (asked_in t)

-- how many entries the last value of a book tells
unfoldable pub entry_count_in : Tree → Option ℕ
entry_count_in (list (one name (one count no_more))) =
    if is_text (101 ∷ 110 ∷ 100 ∷ []) name then unsigned_in count else None
entry_count_in _ = None

-- how many messages an outbox holds, as the first value of a book tells
abbrev pub if_fair : ℕ → Option ℕ
if_fair n = if nat_le LEAST_OUTBOX n && nat_le n MOST_OUTBOX then Some n else None

abbrev pub if_first_version : ℕ → Option ℕ → Option ℕ
if_first_version version outbox = if version == 1 then outbox else None

abbrev pub outbox_in_parts : Tree → Tree → Option ℕ
outbox_in_parts version outbox = do
  v ← unsigned_in version
  n ← unsigned_in outbox
  if_first_version v (if_fair n)

unfoldable pub outbox_in : Tree → Option ℕ
outbox_in (list (one name (one version (one outbox no_more)))) =
    if is_text book_name name then outbox_in_parts version outbox else None
outbox_in _ = None
