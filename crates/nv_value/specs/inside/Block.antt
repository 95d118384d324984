-- inside: bytes in place, or in one allocation with the count of their owners.
use Rattle.std.specs.Prelude.{◌≡◌, ◌^◌, ◌<◌, ◌≤◌, ℕ, List, length, take, ⊤}
use Rattle.std.specs.Arc.{arc_value, arc_slice_items}
use Rattle.nv_value.specs.declared.block.Block.{Block}
use Rattle.nv_value.specs.declared.block.Block.TheVariants.{Held, Tiny, Short, Middle, Wide, Long}

-- The bytes: the front of a room, or all of a slice.
abbrev pub block_bytes : Block → List ℕ
block_bytes (Held n room) = take n room
block_bytes (Tiny n room) = take n (arc_value room)
block_bytes (Short n room) = take n (arc_value room)
block_bytes (Middle n room) = take n (arc_value room)
block_bytes (Wide n room) = take n (arc_value room)
block_bytes (Long n items) = arc_slice_items items

-- How many bytes the handle says there are.
abbrev pub block_len : Block → ℕ
block_len (Held n room) = n
block_len (Tiny n room) = n
block_len (Short n room) = n
block_len (Middle n room) = n
block_len (Wide n room) = n
block_len (Long n items) = n

-- The bytes fit into their room.
abbrev pub IsInRoom : Block → Type 0
IsInRoom (Held n room) = n ≤ 14
IsInRoom (Tiny n room) = n ≤ 32
IsInRoom (Short n room) = n ≤ 64
IsInRoom (Middle n room) = n ≤ 96
IsInRoom (Wide n room) = n ≤ 128
IsInRoom (Long n items) = ⊤

-- The handle holds just these bytes, which a spelling can tell.
pub record HoldsBytes (block : Block) (all : List ℕ) : Type 0 where
  pub bytes : block_bytes block ≡ all
  pub len : block_len block ≡ length all
  pub room : IsInRoom block
  pub few : length all < 2 ^ 32
