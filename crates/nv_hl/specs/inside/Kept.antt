-- inside: how the text of a cell is kept.
use Rattle.std.specs.Prelude.{ℕ, ◌≤◌, List, take}
use Rattle.nv_hl.specs.declared.celltext.Kept.{Kept}
use Rattle.nv_hl.specs.declared.celltext.Kept.TheVariants.{Short, Long}

-- the bytes of a text
abbrev pub kept_bytes : Kept → List ℕ
kept_bytes (Short len bytes) = take len bytes
kept_bytes (Long bytes) = bytes.value.items

-- the length of what is kept in place is within its room
abbrev pub FitsShort : Kept → Type 0
FitsShort (Short len bytes) = len ≤ 14
FitsShort (Long bytes) = Unit {0}
