-- What the bytes that were sent are read as.
use Rattle.std.specs.Prelude.{◌≡◌, ◌≤◌, ℕ, suc, List, [], drop, length, map, Option, Some, None}
use Rattle.nv_value.specs.View.{content}
use Rattle.nv_value.specs.declared.value.Value.{Value}
use Rattle.nv_rpc.specs.MessageView.{sent_of}
use Rattle.nv_watch.specs.SentParts.{with_first, values_within, is_whole_sent, messages_sent, others_among, values_read}
use Rattle.nv_watch.specs.declared.reading.Parts.{Parts}

-- it is the value at the front of bytes, with the bytes that it takes, or there is none
abbrev pub IsFirstValue : List ℕ → Option (Value × ℕ) → Type 0
IsFirstValue bytes None =
    (n : ℕ) → values_within (suc n) bytes ≡ record { values = []; rest = bytes }
IsFirstValue bytes (Some found) =
    (found.1 ≤ length bytes)
    × ((n : ℕ) → values_within (suc n) bytes
    ≡ with_first (content found.0) (values_within n (drop found.1 bytes)))

-- they are the parts of these bytes
pub record ArePartsOf (bytes : List ℕ) (parts : Parts) : Type 0 where
  pub messages : map sent_of parts.messages.items ≡ messages_sent bytes
  pub others : map content parts.others.items ≡ others_among (values_read bytes).values
  pub is_whole : parts.is_whole ≡ is_whole_sent bytes
