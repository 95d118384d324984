-- inside: what every set of marks keeps of its records.
use Rattle.std.specs.Prelude.{◌≡◌, ℕ, ◌+◌, ◌-◌, ◌*◌, ◌≤◌, ◌&&◌, min, if◌then◌else◌, List, [], ◌++◌, false, is_some, filter, length, map, take, IsPermutation}
use Rattle.std.specs.List.{IsDistinct}
use Rattle.nv_marks.specs.Sound.{IsSound}
use Rattle.nv_marks.specs.declared.record.Record.{Record}
use Rattle.nv_places.specs.declared.place.Pos.{Pos}
use Rattle.nv_marks.specs.Order.{is_within}
use Rattle.nv_marks.specs.declared.extmark.Mark.{Mark}
use Rattle.nv_marks.specs.declared.query.Query.{Query}
use Rattle.nv_marks.specs.Queries.{is_selected}
use Rattle.nv_marks.specs.inside.Records.{ForEach, end_among, is_start, mark_among, marks_among, records_of_marks, same_key}
use Rattle.nv_marks.specs.inside.Chunks.{Piece, IsLaid, IsSpare, spread_records, text_start}

-- the chunks hold the records of sound marks, each once
pub record HoldsMarks (ps : List Piece) (greatest : List (ℕ × ℕ)) : Type 0 where
  pub laid : IsLaid ps
  pub once : IsDistinct same_key (spread_records ps)
  pub all : IsPermutation (records_of_marks (marks_among (spread_records ps))) (spread_records ps)
  pub sound : IsSound (marks_among (spread_records ps)) greatest

-- a start knows whether its mark has an end
abbrev pub IsEndKnown : List Record → Record → Type 0
IsEndKnown rs r =
    r.info.is_end ≡ false → r.info.has_end ≡ is_some (end_among rs r.info.ns r.info.id)

-- the first place at which a mark that is asked for may start
abbrev pub first_start : Query → Pos
first_start q = if q.reaching then text_start else q.from

-- the marks of those records that are asked for
abbrev pub listed_marks : List Record → Query → List Record → List Mark
listed_marks rs q xs =
    filter (is_selected q)
    (map (mark_among rs) (filter (λ r. is_start r && is_within (first_start q) q.to r.pos) xs))

-- a list with others behind it, up to a length of n
abbrev pub extended_list : ℕ → List Mark → List Mark → List Mark
extended_list n had more = had ++ take (n - length had) more

-- room for the records of so many marks, and for those of a chunk beside a mark's
abbrev pub scratch_room : ℕ → ℕ
scratch_room n = 2 * n + 64 * min 1 n

-- what a set keeps beside its records
pub record IsEquipped (marks : ℕ) (ps : List Piece) (scratch : List Record) (used space : ℕ)
    (spare : List Piece) : Type 0 where
  pub count : marks ≡ length (marks_among (spread_records ps))
  pub none : scratch ≡ []
  pub empty : used ≡ 0
  pub room : scratch_room marks ≤ space
  pub spares : ForEach IsSpare spare
