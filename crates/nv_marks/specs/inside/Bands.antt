-- inside: bands of rows, by which the marks that reach a row are found.
use Rattle.std.specs.Prelude.{◌≡◌, ℕ, ◌+◌, ◌-◌, ◌<◌, min, max, nat_le, nat_lt, if◌then◌else◌, Bool, true, false, ◌&&◌, List, length, IfSome}
use Rattle.std.specs.List.{list_any}
use Rattle.nv_places.specs.Places.{is_before}
use Rattle.nv_marks.specs.Queries.{stops_from}
use Rattle.nv_marks.specs.declared.bands.Band.{Band}
use Rattle.nv_marks.specs.declared.extmark.Mark.{Mark}
use Rattle.nv_marks.specs.declared.query.Query.{Query}
use Rattle.nv_marks.specs.declared.record.Record.{Record}
use Rattle.nv_marks.specs.inside.Records.{ForEach, end_among}

-- a row is one of a band
abbrev pub has_row : ℕ → Band → Bool
has_row row b = nat_le b.first row && nat_le row b.last

-- a mark that starts in one row and ends in another is in a band
abbrev pub is_in_band : ℕ → ℕ → Band → Bool
is_in_band start stop b = has_row start b && nat_le stop b.end

-- it is in one of some bands
abbrev pub is_banded : List Band → ℕ → ℕ → Bool
is_banded bs start stop = list_any (is_in_band start stop) bs

abbrev pub HasBand : List Band → Mark → Type 0
HasBand bs m = IfSome m.stop (λ far. is_banded bs m.start.row far.pos.row ≡ true)

-- each mark that has an end is in one of some bands
pub record IsBanded (bs : List Band) (ms : List Mark) : Type 0 where
  pub some : 0 < length bs
  pub each : ForEach (HasBand bs) ms

-- the band of one mark, and a band with one more
abbrev pub new_band : ℕ → ℕ → Band
new_band start stop = record { first = start; last = start; end = stop }

abbrev pub widened_band : ℕ → ℕ → Band → Band
widened_band start stop b =
    record { first = min b.first start; last = max b.last start; end = max b.end stop }

-- ---- bands move with the text

-- the first row to which what stands in a row may go, once the rows from `start` to `old` are those
-- from `start` to `new`, and the last one
abbrev pub least_row : ℕ → ℕ → ℕ → ℕ → ℕ
least_row start old new row =
    if nat_le row start then row
    else if nat_le row old then start else min (row - old + new) 4294967295

abbrev pub greatest_row : ℕ → ℕ → ℕ → ℕ → ℕ
greatest_row start old new row =
    if nat_lt row start then row
    else if nat_le row old then new else min (row - old + new) 4294967295

abbrev pub moved_band : ℕ → ℕ → ℕ → Band → Band
moved_band start old new b = record {
  first = least_row start old new b.first;
  last = greatest_row start old new b.last;
  end = greatest_row start old new b.end;
}

-- ---- bands that reach a row

-- marks of the band may start up to a row and end in it or behind it
abbrev pub reaches_row : ℕ → Band → Bool
reaches_row row b = nat_le b.first row && nat_le row b.end

-- the band has one of the rows from one to another
abbrev pub meets_rows : ℕ → ℕ → Band → Bool
meets_rows low high b = nat_le b.first high && nat_le low b.last

-- where marks are asked for that reach a place: if a mark starts before it and reaches it, the row
-- that it starts in is one of some bands
abbrev pub IsReachKnown : List Band → Query → List Record → Record → Type 0
IsReachKnown bs q rs r =
    q.reaching ≡ true → r.info.is_end ≡ false → is_before r.pos q.from ≡ true
    → stops_from q.from (end_among rs r.info.ns r.info.id) ≡ true
    → list_any (has_row r.pos.row) bs ≡ true
