-- inside: which marks are kept by their records, and what is put back of records.
use Rattle.std.specs.Prelude.{◌≡◌, ℕ, IfSome, filter, ◌==◌, if◌then◌else◌, Bool, true, false, is_some, not, ◌&&◌, List, [], ◌∷◌, map, Option, None, Some, option_map, option_to_list, unwrap_or}
use Rattle.std.specs.List.{flat_map}
use Rattle.nv_places.specs.declared.place.Pos.{Pos}
use Rattle.nv_marks.specs.declared.extmark.Far.{Far}
use Rattle.nv_marks.specs.declared.extmark.Mark.{Mark}
use Rattle.nv_marks.specs.declared.keeping.Kept.{Kept}
use Rattle.nv_marks.specs.declared.record.Record.{Record}
use Rattle.nv_marks.specs.Marks.{is_named, mark_at, without}
use Rattle.nv_marks.specs.Order.{is_within}
use Rattle.nv_marks.specs.Queries.{is_meant}
use Rattle.nv_marks.specs.inside.Records.{ForEach, belongs_to, has_key, mark_among, marks_among}

-- the place that was kept of an end, or of a start
abbrev pub kept_place : Kept → Bool → Option Pos
kept_place k end = if end then k.stop else k.start

-- a record of the mark that something was kept of, with that put back; any other as it is
abbrev pub record_put_back : Kept → Record → Record
record_put_back k r = record r {
  pos = if belongs_to k.ns k.id r then unwrap_or (kept_place k r.info.is_end) r.pos else r.pos;
  info = record r.info {
    hidden = if has_key k.ns k.id false r then k.hidden else r.info.hidden;
  };
}

-- the start alone, or the end
abbrev pub part_put_back : Kept → Bool → Record → Record
part_put_back k end r = if has_key k.ns k.id end r then record_put_back k r else r

-- an end with what was kept of its mark put back, if it is of that mark
abbrev pub stop_put_back : Kept → Bool → Far → Far
stop_put_back k is far = record far { pos = if is then unwrap_or k.stop far.pos else far.pos }

-- the mark that something was kept of, under any setting, with that put back
abbrev pub mark_put_back : Kept → Mark → Mark
mark_put_back k m = record m {
  start = if is_named k.ns k.id m then unwrap_or k.start m.start else m.start;
  stop = option_map (stop_put_back k (is_named k.ns k.id m)) m.stop;
  hidden = if is_named k.ns k.id m then k.hidden else m.hidden;
}

-- the mark is there under the setting that something was kept of
abbrev pub has_setting_by : Kept → Option Mark → Bool
has_setting_by k None = false
has_setting_by k (Some m) = m.set == k.set

abbrev pub has_setting : Kept → List Mark → Bool
has_setting k marks = has_setting_by k (mark_at marks k.ns k.id)

-- records with what was kept of one mark put back, if it is there under the same setting
abbrev pub one_put_back : Kept → List Record → List Record
one_put_back k rs = if has_setting k (marks_among rs) then map (record_put_back k) rs else rs

-- with all that was kept put back, one after another
abbrev pub all_put_back : List Kept → List Record → List Record
all_put_back [] rs = rs
all_put_back (k ∷ ks) rs = all_put_back ks (one_put_back k rs)

-- ---- where marks are put back

-- no record is of the mark of a namespace and id
abbrev pub IsUnnamed : ℕ → ℕ → List Record → Type 0
IsUnnamed ns id rs = ForEach (λ r. belongs_to ns id r ≡ false) rs

-- if the mark that something was kept of is there, no record of some is of it
abbrev pub IsApart : Kept → List Mark → List Record → Type 0
IsApart k ms rs = is_some (mark_at ms k.ns k.id) ≡ true → IsUnnamed k.ns k.id rs

-- a mark stands and is put back from one place on, up to another, both included
abbrev pub IsMarkSpanned : Pos → Pos → Kept → Mark → Type 0
IsMarkSpanned from to k m =
    (is_within from to m.start ≡ true) × IfSome m.stop (λ far. is_within from to far.pos ≡ true)
    × IfSome k.start (λ p. is_within from to p ≡ true)
    × IfSome k.stop (λ p. is_within from to p ≡ true)

-- the mark that something was kept of, if it is there, stands and is put back so
abbrev pub IsSpanned : Pos → Pos → List Mark → Kept → Type 0
IsSpanned from to ms k = IfSome (mark_at ms k.ns k.id) (IsMarkSpanned from to k)

-- ---- what is kept

-- a mark is kept by its end, if its start doesn't lie in the part
abbrev pub kept_by_end : Pos → Pos → Option Mark → Option Mark
kept_by_end from to None = None
kept_by_end from to (Some m) = if m.restore && not (is_within from to m.start) then Some m else None

-- the mark that is kept by a record of all
abbrev pub kept_mark : List Record → Pos → Pos → Record → Option Mark
kept_mark rs from to r =
    if is_within from to r.pos then
    (if r.info.is_end then kept_by_end from to (mark_at (marks_among rs) r.info.ns r.info.id)
    else if r.info.restore then Some (mark_among rs r) else None)
    else None

-- the marks that are kept by some of them
abbrev pub kept_among : List Record → Pos → Pos → List Record → List Mark
kept_among rs from to xs = flat_map (λ r. option_to_list (kept_mark rs from to r)) xs

-- ---- marks that go

-- marks without those of the names of some others, one after another
abbrev pub without_all : List Mark → List Mark → List Mark
without_all [] ms = ms
without_all (g ∷ gs) ms = without_all gs (without g.ns g.id ms)

-- a record is of a mark that isn't of the namespace that is meant
abbrev pub is_other : Option ℕ → Record → Bool
is_other meant r = not (is_meant meant r.info.ns)

-- the marks that aren't
abbrev pub other_marks : Option ℕ → List Mark → List Mark
other_marks meant ms = filter (λ m. not (is_meant meant m.ns)) ms
