-- What is read of the bytes that a session is sent: messages, and redraw notifications
-- (MessagePack-RPC specification, "Notification Message"; help: ui-events).
use Rattle.std.specs.Prelude.{ℕ, zero, suc, ◌^◌, ◌&&◌, ◌||◌, ◌==◌, Bool, true, false, pos, List, [], ◌∷◌, drop, length, codes, bytes_eq, is_some, is_none, filter}
use Rattle.std.specs.List.{filter_map, list_all}
use Rattle.nv_value.specs.Content.{Tree, Trees, no_more, one, text, list}
use Rattle.nv_msgpack.specs.Reading.{Reading, whole, more, flawed, value_at}
use Rattle.nv_rpc.specs.Calls.{is_number}
use Rattle.nv_rpc.specs.Messages.{Sent}
use Rattle.nv_rpc.specs.Received.{message_in}

-- values read one after another, and the bytes behind them
pub record ReadValues : Type 0 where
  pub values : List Tree
  pub rest : List ℕ

-- a value in front of others
abbrev pub with_first : Tree → ReadValues → ReadValues
with_first t r = record { values = t ∷ r.values; rest = r.rest }

-- what was read where a value was: it, and what is read behind the bytes that it takes
abbrev pub values_after : List ℕ → (ℕ → ReadValues) → Reading Tree → ReadValues
values_after bytes behind (whole t len) = with_first t (behind len)
values_after bytes behind more = record { values = []; rest = bytes }
values_after bytes behind (flawed flaw place) = record { values = []; rest = bytes }

-- at most so many values at the front of bytes
abbrev pub values_within : ℕ → List ℕ → ReadValues
values_within zero bytes = record { values = []; rest = bytes }
values_within (suc n) bytes =
    values_after bytes (λ len. values_within n (drop len bytes)) (value_at 100 (2 ^ 62) bytes)

-- the values at the front of bytes: each has a byte at least
unfoldable pub values_read : List ℕ → ReadValues
values_read bytes = values_within (length bytes) bytes

-- whether a value is a redraw notification, `[2, "redraw", entries]`
abbrev pub is_redraw_name : Tree → Bool
is_redraw_name (text bytes) = bytes_eq bytes (codes "redraw")
is_redraw_name _ = false

abbrev pub is_list_tree : Tree → Bool
is_list_tree (list ts) = true
is_list_tree _ = false

abbrev pub is_redraw_call : Trees → Bool
is_redraw_call (one kind (one name (one entries no_more))) =
    is_number (pos 2) kind && (is_redraw_name name && is_list_tree entries)
is_redraw_call _ = false

abbrev pub is_redraw : Tree → Bool
is_redraw (list ts) = is_redraw_call ts
is_redraw _ = false

-- whether a value is a message or a redraw notification
abbrev pub is_told : Tree → Bool
is_told t = is_some (message_in t) || is_redraw t

-- the messages among values, and the values that are none
abbrev pub messages_among : List Tree → List Sent
messages_among ts = filter_map message_in ts

abbrev pub others_among : List Tree → List Tree
others_among ts = filter (λ t. is_none (message_in t)) ts

-- whether bytes are whole messages and redraw notifications, and nothing behind them
abbrev pub is_whole_sent : List ℕ → Bool
is_whole_sent bytes =
    (length (values_read bytes).rest == 0) && list_all is_told (values_read bytes).values

-- the messages that bytes hold
abbrev pub messages_sent : List ℕ → List Sent
messages_sent bytes = messages_among (values_read bytes).values
