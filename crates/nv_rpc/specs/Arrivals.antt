-- Calls at the front of bytes that come (MessagePack-RPC specification).
use Rattle.std.specs.Prelude.{ℕ, ◌≡◌, List, Some}
use Rattle.nv_value.specs.Content.{Tree}
use Rattle.nv_msgpack.specs.Reading.{whole, value_at}
use Rattle.nv_msgpack.specs.Shortest.{HasSpelling}
use Rattle.nv_rpc.specs.Calls.{Call, call_in}

-- The bytes begin with a value, within bounds, that is this call, and so many bytes spell it.
abbrev pub BeginsWithCall : ℕ → ℕ → List ℕ → Call → ℕ → Type 0
BeginsWithCall depth most bytes call length =
    (tree : Tree) × (value_at depth most bytes ≡ whole tree length) × HasSpelling tree
    × (call_in tree ≡ Some call)
