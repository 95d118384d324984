-- What a client sends (MessagePack-RPC specification, "Request Message" and "Notification Message";
-- Neovim help `rpc`).
use Rattle.std.specs.Prelude.{ℕ, ◌^◌, Bool, false, nat_lt, if◌then◌else◌, ℤ, pos, List, [], ◌∷◌, Option, Some, None}
use Rattle.std.specs.Ordering.{int_eq}
use Rattle.nv_rpc.specs.Steps.{◌>>=◌}
use Rattle.nv_value.specs.Content.{Tree, Trees, no_more, one, integer, text, bin, list}

-- A request with its msgid, or a notification; then the name of the method and its arguments.
pub data Call : Type 0 where
  request : ℕ → List ℕ → Trees → Call
  notice : List ℕ → Trees → Call

-- Whether a value is this number.
abbrev pub is_number : ℤ → Tree → Bool
is_number n (integer z) = int_eq z n
is_number n _ = false

-- The number of a request: an unsigned 32-bit number (MessagePack-RPC specification, "msgid").
abbrev pub msgid_in : Tree → Option ℕ
msgid_in (integer (pos n)) = if nat_lt n (2 ^ 32) then Some n else None
msgid_in _ = None

-- The name of a method: a string, or a binary as older MessagePack-RPC wrote it (own rule).
abbrev pub name_in : Tree → Option (List ℕ)
name_in (text bytes) = Some bytes
name_in (bin bytes) = Some bytes
name_in _ = None

-- The arguments of a call: a list.
abbrev pub params_in : Tree → Option Trees
params_in (list ts) = Some ts
params_in _ = None

-- The request of a msgid, a name and arguments, where they are that.
abbrev pub request_in : Tree → Tree → Tree → Option Call
request_in msgid name params = do
  id ← msgid_in msgid
  method ← name_in name
  arguments ← params_in params
  Some (request id method arguments)

-- The notification of a name and arguments, where they are that.
abbrev pub notice_in : Tree → Tree → Option Call
notice_in name params = do
  method ← name_in name
  arguments ← params_in params
  Some (notice method arguments)

-- The call that a value is: `[0, msgid, method, params]` or `[2, method, params]`.
unfoldable pub call_in : Tree → Option Call
call_in (list (one kind (one msgid (one name (one params no_more))))) =
    if is_number (pos 0) kind then request_in msgid name params else None
call_in (list (one kind (one name (one params no_more)))) =
    if is_number (pos 2) kind then notice_in name params else None
call_in _ = None

-- A call before others, or nothing where it is none.
abbrev pub and_then : Option Call → List Call → List Call
and_then (Some call) rest = call ∷ rest
and_then None rest = []

-- The calls of values in order, up to the first value that is none.
abbrev pub calls : Trees → List Call
calls no_more = []
calls (one t ts) = and_then (call_in t) (calls ts)
