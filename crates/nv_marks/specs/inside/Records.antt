-- inside: marks as records, of each its start and its end.
use Rattle.std.specs.Prelude.{◌≡◌, ℕ, ◌==◌, if◌then◌else◌, Bool, true, false, not, ◌&&◌, List, [], ◌∷◌, Option, None, is_some, map, find, filter, option_map, option_to_list}
use Rattle.std.specs.List.{flat_map}
use Rattle.std.specs.declared.cmp.Ordering.{Ordering}
use Rattle.std.specs.Ordering.{is_lt, ordering_then, nat_cmp, bool_cmp}
use Rattle.nv_places.specs.declared.place.Pos.{Pos}
use Rattle.nv_places.specs.declared.place.Extent.{Extent}
use Rattle.nv_places.specs.Places.{IsNarrow}
use Rattle.nv_places.specs.Moves.{moved_place}
use Rattle.nv_marks.specs.declared.extmark.Far.{Far}
use Rattle.nv_marks.specs.declared.extmark.Mark.{Mark}
use Rattle.nv_marks.specs.declared.record.Info.{Info}
use Rattle.nv_marks.specs.declared.record.Record.{Record}

-- what holds of each element
abbrev pub ForEach : {X : Type 0} → (X → Type 0) → List X → Type 0
ForEach P [] = Unit {0}
ForEach P (x ∷ xs) = P x × ForEach P xs

-- the order of records: that of marks, with the end behind the start
abbrev pub record_order : Record → Record → Ordering
record_order r q =
    ordering_then (ordering_then (ordering_then (ordering_then (ordering_then
    (nat_cmp r.pos.row q.pos.row)
    (nat_cmp r.pos.col q.pos.col))
    (bool_cmp r.info.right q.info.right))
    (nat_cmp r.info.ns q.info.ns))
    (nat_cmp r.info.id q.info.id))
    (bool_cmp r.info.is_end q.info.is_end)

-- where a record stands
abbrev pub place : Record → Pos
place r = r.pos

-- a record comes before another
abbrev pub precedes : Record → Record → Bool
precedes r q = is_lt (record_order r q)

-- no element comes before an earlier one
abbrev pub Rises : {X : Type 0} → (X → X → Bool) → List X → Type 0
Rises lt [] = Unit {0}
Rises lt (x ∷ xs) = ForEach (λ y. lt y x ≡ false) xs × Rises lt xs

abbrev pub Sort : List Record → Type 0
Sort rs = Rises precedes rs

-- a record after the extent `old` from `start` on became the extent `new`
abbrev pub moved_record : Pos → Extent → Extent → Record → Record
moved_record start old new r = record r { pos = moved_place r.info.right start old new r.pos }

-- the record's place stays a place of 32 bits
abbrev pub MovesInRange : Pos → Extent → Extent → Record → Type 0
MovesInRange start old new r = IsNarrow (moved_place r.info.right start old new r.pos)

-- a record is the start, or the end, of the mark of a namespace and id
abbrev pub is_key : ℕ → ℕ → Bool → Info → Bool
is_key ns id end i = (if end then i.is_end else not i.is_end) && (i.ns == ns && i.id == id)

abbrev pub has_key : ℕ → ℕ → Bool → Record → Bool
has_key ns id end r = is_key ns id end r.info

-- two records are the same part of one mark
abbrev pub same_key : Record → Record → Bool
same_key r q = has_key r.info.ns r.info.id r.info.is_end q

-- a record belongs to the mark of a namespace and id
abbrev pub belongs_to : ℕ → ℕ → Record → Bool
belongs_to ns id r = r.info.ns == ns && r.info.id == id

abbrev pub is_start : Record → Bool
is_start r = not r.info.is_end

-- the end that a record stands for
abbrev pub far_in : Record → Far
far_in r = record { pos = r.pos; right = r.info.right }

-- the end of the mark of a namespace and id among records
abbrev pub end_among : List Record → ℕ → ℕ → Option Far
end_among rs ns id = option_map far_in (find (has_key ns id true) rs)

-- the mark of a start, with this end
abbrev pub mark_with_stop : Record → Option Far → Mark
mark_with_stop r stop = record {
  ns = r.info.ns;
  id = r.info.id;
  start = r.pos;
  right = r.info.right;
  stop = stop;
  paint = r.info.paint;
  priority = r.info.priority;
  restore = r.info.restore;
  invalidate = r.info.invalidate;
  hidden = r.info.hidden;
  set = r.info.set;
}

-- the mark of a start among records
abbrev pub mark_among : List Record → Record → Mark
mark_among rs r = mark_with_stop r (end_among rs r.info.ns r.info.id)

-- the marks that records stand for
abbrev pub marks_among : List Record → List Mark
marks_among rs = map (mark_among rs) (filter is_start rs)

-- the start of a mark as a record
abbrev pub start_record : Mark → Record
start_record m = record {
  pos = m.start;
  info = record {
    ns = m.ns;
    id = m.id;
    right = m.right;
    is_end = false;
    has_end = is_some m.stop;
    paint = m.paint;
    priority = m.priority;
    restore = m.restore;
    invalidate = m.invalidate;
    hidden = m.hidden;
    set = m.set;
  };
}

-- an end of a mark as a record
abbrev pub end_record : Mark → Far → Record
end_record m far = record {
  pos = far.pos;
  info = record {
    ns = m.ns;
    id = m.id;
    right = far.right;
    is_end = true;
    has_end = false;
    paint = None;
    priority = 0;
    restore = false;
    invalidate = false;
    hidden = false;
    set = 0;
  };
}

-- the records of a mark, and of marks
abbrev pub records_of_mark : Mark → List Record
records_of_mark m = start_record m ∷ option_to_list (option_map (end_record m) m.stop)

abbrev pub records_of_marks : List Mark → List Record
records_of_marks ms = flat_map records_of_mark ms
