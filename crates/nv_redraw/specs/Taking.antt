-- What a client's machine answers (help: ui-linegrid).
use Rattle.std.specs.Prelude.{◌≡◌, ℕ, map, Option, None, Some}
use Rattle.nv_hl.specs.Cells.{Screen}
use Rattle.nv_linegrid.specs.Client.{Client, cell_seen}

-- a client after an event that it took, and as it was where the event doesn't fit
abbrev pub client_left : Client → Option Client → Client
client_left old None = old
client_left old (Some new) = new

-- the client shows this screen with its cursor at a row and a column, and no cell is unknown
pub record ShowsGrid (c : Client) (s : Screen) (place : ℕ × ℕ) : Type 0 where
  pub size : c.size ≡ Some (s.width, s.height)
  pub cells : map (map (cell_seen c.table)) c.rows ≡ map (map Some) s.rows
  pub cursor : c.cursor ≡ Some place
