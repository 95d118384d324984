-- inside: the cells that are kept.
use Rattle.std.specs.Prelude.{◌≡◌, ◌≤◌, false, true, List, length}
use Rattle.std.specs.Map.{keys_of}
use Rattle.std.specs.List.{AllByRecursion, list_any}
use Rattle.lru.specs.LruCache.{LruCache}
use Rattle.nv_hl.specs.declared.cell.Cell.{Cell}
use Rattle.nv_painter.specs.Keys.{LineKey, cells_of_key, most_cells, most_keys, same_line_key}

-- inside: a key with its cells, which aren't too many
pub record IsEntry (e : LineKey × List Cell) : Type 0 where
  pub cells : e.1 ≡ cells_of_key e.0
  pub count : length e.1 ≤ most_cells

-- inside: at most so many keys, each with its cells
pub record AreKept (c : LruCache LineKey (List Cell)) : Type 0 where
  pub entries : AllByRecursion IsEntry c.entries
  pub count : length c.entries ≤ most_keys
  pub cap : c.cap ≡ most_keys

-- inside: nothing is kept under a key
abbrev pub IsAbsent : LineKey → LruCache LineKey (List Cell) → Type 0
IsAbsent key c = list_any (same_line_key key) (keys_of c.entries) ≡ false

-- inside: something is
abbrev pub IsThere : LineKey → LruCache LineKey (List Cell) → Type 0
IsThere key c = list_any (same_line_key key) (keys_of c.entries) ≡ true
