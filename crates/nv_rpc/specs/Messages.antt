-- What the server sends: replies (MessagePack-RPC specification, "Response Message") and events
-- (Neovim help `api-buffer-updates`, `nvim_error_event`).
use Rattle.std.specs.Prelude.{ℕ, ◌^◌, ◌<◌, false, ℤ, pos, List, [], ◌∷◌, length, codes, Option, Some, None}
use Rattle.nv_value.specs.Content.{Tree, Trees, trees_of, count, nil, truth, integer, text, list, ext}
use Rattle.nv_value.specs.declared.fault.ApiFault.{ApiFault}
use Rattle.nv_msgpack.specs.Shortest.{shortest, HasSpelling, HaveSpellings}

-- The content of a message: a reply with its msgid, its error and its result; a buffer's lines that
-- were put in place of others, with the changedtick, the first line and the line after the last one
-- replaced; a buffer's new changedtick; the end of a buffer's events; the error of a notification.
pub data Sent : Type 0 where
  reply : ℕ → Option ApiFault → Tree → Sent
  lines_event : ℤ → ℤ → ℤ → ℤ → Trees → Sent
  tick_event : ℤ → ℤ → Sent
  detach_event : ℤ → Sent
  fault_event : ApiFault → Sent

-- Values one after another.
abbrev pub items : List Tree → Tree
items ts = list (trees_of ts)

-- The handle of a buffer: an extension of type 0 whose data is the number as an integer (Neovim
-- help `api-types`), spelled as short as can be (own rule).
abbrev pub buffer_handle : ℤ → Tree
buffer_handle n = ext (pos 0) (shortest (integer n))

-- An error: its kind and its message (Neovim help `nvim_error_event`). Its code isn't sent.
abbrev pub error : ApiFault → Tree
error fault = items (integer (pos fault.kind) ∷ text fault.words ∷ [])

-- A response of MessagePack-RPC: `[1, msgid, error, result]`.
abbrev pub response : ℕ → Tree → Tree → Tree
response msgid error result = items (integer (pos 1) ∷ integer (pos msgid) ∷ error ∷ result ∷ [])

-- A notification of MessagePack-RPC: `[2, name, arguments]`.
abbrev pub notification : List ℕ → List Tree → Tree
notification name arguments = items (integer (pos 2) ∷ text name ∷ items arguments ∷ [])

-- The names of the events.
abbrev pub lines_name : List ℕ
lines_name = codes "nvim_buf_lines_event"

abbrev pub tick_name : List ℕ
tick_name = codes "nvim_buf_changedtick_event"

abbrev pub detach_name : List ℕ
detach_name = codes "nvim_buf_detach_event"

abbrev pub fault_name : List ℕ
fault_name = codes "nvim_error_event"

-- The value that tells a message. A reply with an error has no result; `more`, the last argument of
-- a lines event, is false (own rule).
unfoldable pub message_tree : Sent → Tree
message_tree (reply msgid None result) = response msgid nil result
message_tree (reply msgid (Some fault) result) = response msgid (error fault) nil
message_tree (lines_event buffer tick first last lines) =
    notification lines_name (buffer_handle buffer ∷ integer tick ∷ integer first ∷ integer last
    ∷ list lines ∷ truth false ∷ [])
message_tree (tick_event buffer tick) =
    notification tick_name (buffer_handle buffer ∷ integer tick ∷ [])
message_tree (detach_event buffer) = notification detach_name (buffer_handle buffer ∷ [])
message_tree (fault_event fault) =
    notification fault_name (integer (pos fault.kind) ∷ text fault.words ∷ [])

-- A message that MessagePack can spell: each length in it is below 2 ^ 32, and so is each in the
-- values that it holds.
abbrev pub IsSendable : Sent → Type 0
IsSendable (reply msgid None result) = HasSpelling result
IsSendable (reply msgid (Some fault) result) = length fault.words < 2 ^ 32
IsSendable (lines_event buffer tick first last lines) = (count lines < 2 ^ 32) × HaveSpellings lines
IsSendable (tick_event buffer tick) = Unit {0}
IsSendable (detach_event buffer) = Unit {0}
IsSendable (fault_event fault) = length fault.words < 2 ^ 32
