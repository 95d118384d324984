-- How a splice of the text moves what stands in it (help: api-extended-marks, gravity).
use Rattle.std.specs.Prelude.{ℕ, ◌+◌, ◌-◌, ◌==◌, if◌then◌else◌, Bool, nat_lt}
use Rattle.nv_places.specs.declared.place.Pos.{Pos}
use Rattle.nv_places.specs.declared.place.Extent.{Extent}
use Rattle.nv_places.specs.Places.{further, is_before}

-- an offset after bytes s to e, e exclusive, became n bytes. One below s stays, one above e keeps
-- its distance from the end, and each other one goes to the end of the new bytes with right gravity
-- and to their start with left gravity
abbrev pub moved_offset : Bool → ℕ → ℕ → ℕ → ℕ → ℕ
moved_offset right s e n offset =
    if nat_lt offset s then offset else if nat_lt e offset then offset - e + s + n
    else if right then s + n else s

-- a place behind `old`, the end of what is replaced, once that end is at `new`: in the same row it
-- keeps its columns from there, in a later row its rows from there and its column
abbrev pub carried_place : Pos → Pos → Pos → Pos
carried_place old new p =
    if p.row == old.row then record { row = new.row; col = p.col - old.col + new.col }
    else record { row = p.row - old.row + new.row; col = p.col }

-- the same move in rows and columns, after the extent `old` from `start` on became the extent `new`
abbrev pub moved_place : Bool → Pos → Extent → Extent → Pos → Pos
moved_place right start old new p =
    if is_before p start then p
    else if is_before (further start old) p
    then carried_place (further start old) (further start new) p
    else if right then further start new else start
