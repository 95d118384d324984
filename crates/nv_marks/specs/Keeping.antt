-- What undo and redo keep of marks beside a splice, and put back (help: nvim_buf_set_extmark(),
-- keys undo_restore and invalidate). A part of the text lies from one place to another.
use Rattle.std.specs.Prelude.{◌==◌, if◌then◌else◌, Bool, true, false, not, ◌&&◌, ◌||◌, List, [], ◌∷◌, map, filter, Option, Some, None, option_map, unwrap_or}
use Rattle.nv_places.specs.declared.place.Pos.{Pos}
use Rattle.nv_places.specs.declared.place.Extent.{Extent}
use Rattle.nv_places.specs.Places.{further, is_before}
use Rattle.nv_marks.specs.Order.{is_within}
use Rattle.nv_marks.specs.declared.extmark.Far.{Far}
use Rattle.nv_marks.specs.declared.extmark.Mark.{Mark}
use Rattle.nv_marks.specs.declared.keeping.Kept.{Kept}

-- ---- what is kept

-- a place, if it lies in the part
abbrev pub place_within : Pos → Pos → Pos → Option Pos
place_within from to p = if is_within from to p then Some p else None

-- the place of an end that lies in the part
abbrev pub stop_within : Pos → Pos → Option Far → Option Pos
stop_within from to None = None
stop_within from to (Some far) = place_within from to far.pos

-- an end is there and lies in the part
abbrev pub stops_within : Pos → Pos → Option Far → Bool
stops_within from to None = false
stops_within from to (Some far) = is_within from to far.pos

-- of a mark is kept: with `restore`, where its start or its end lies in the part
abbrev pub is_kept : Pos → Pos → Mark → Bool
is_kept from to m = m.restore && (is_within from to m.start || stops_within from to m.stop)

-- what is kept of a mark: its places in the part, and whether it is hidden
abbrev pub kept_of : Pos → Pos → Mark → Kept
kept_of from to m = record {
  ns = m.ns;
  id = m.id;
  set = m.set;
  start = place_within from to m.start;
  stop = stop_within from to m.stop;
  hidden = m.hidden;
}

-- what is kept of marks, before the extent `old` from `start` on is replaced
abbrev pub kept_marks : Pos → Extent → List Mark → List Kept
kept_marks start old marks =
    map (kept_of start (further start old)) (filter (is_kept start (further start old)) marks)

-- ---- what is struck

-- where a mark ends: at its start if it has no end
abbrev pub stop_place : Pos → Option Far → Pos
stop_place start None = start
stop_place start (Some far) = far.pos

-- all of a mark is removed: with `invalidate`, where it starts in the part and before its end, and
-- ends in it
abbrev pub is_struck : Pos → Pos → Mark → Bool
is_struck from to m =
    m.invalidate && (not (is_before m.start from) && (is_before m.start to
    && not (is_before to (stop_place m.start m.stop))))

-- a struck mark that is gone
abbrev pub is_gone : Pos → Pos → Mark → Bool
is_gone from to m = is_struck from to m && not m.restore

-- a struck mark that is left is hidden
abbrev pub struck_mark : Pos → Pos → Mark → Mark
struck_mark from to m = if is_struck from to m then record m { hidden = true } else m

-- the marks once those are struck of which all is removed
abbrev pub marks_struck : Pos → Extent → List Mark → List Mark
marks_struck start old marks =
    map (struck_mark start (further start old))
    (filter (λ m. not (is_gone start (further start old) m)) marks)

-- ---- what is put back

-- a mark is the one of which something was kept, under the same setting
abbrev pub is_of_kept : Kept → Mark → Bool
is_of_kept k m = (m.ns == k.ns && m.id == k.id) && m.set == k.set

-- an end at the place that was kept of it, or where it is
abbrev pub far_put_back : Kept → Far → Far
far_put_back k far = record far { pos = unwrap_or k.stop far.pos }

-- a mark with the places that were kept of it, and hidden as it was
abbrev pub put_back_by : Kept → Mark → Mark
put_back_by k m =
    if is_of_kept k m then record m {
      start = unwrap_or k.start m.start;
      stop = option_map (far_put_back k) m.stop;
      hidden = k.hidden;
    } else m

-- a mark with all that was kept of it put back, one after another
abbrev pub put_back_mark : List Kept → Mark → Mark
put_back_mark [] m = m
put_back_mark (k ∷ ks) m = put_back_mark ks (put_back_by k m)
