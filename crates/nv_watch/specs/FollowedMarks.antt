-- Marks that are followed, where splices leave them, and where they stand (help:
-- api-extended-marks).
use Rattle.std.specs.Prelude.{ℕ, ◌+◌, ◌==◌, Bool, true, false, not, ◌&&◌, ℤ, List, [], find, fold, flat_map, map, Option, None, Some, option_map, if◌then◌else◌}
use Rattle.std.specs.Option.{option_map_or}
use Rattle.std.specs.Ordering.{int_eq}
use Rattle.nv_places.specs.Places.{offset_of}
use Rattle.nv_buffer.specs.declared.edit.ChangePart.{ChangePart}
use Rattle.nv_marks.specs.Marks.{mark_at}
use Rattle.nv_marks.specs.declared.extmark.Mark.{Mark}
use Rattle.nv_model.specs.Buffers.{KeptState, MarkKeys, MarkState, Reach, state_after}
use Rattle.nv_model.specs.Seen.{Seen, SeenBuffer}
use Rattle.nv_world.specs.declared.step.Moved.{Moved}
use Rattle.nv_watch.specs.declared.followed_mark.KeptEnds.{KeptEnds}
use Rattle.nv_watch.specs.declared.followed_mark.KeptPart.{KeptPart}
use Rattle.nv_watch.specs.declared.followed_mark.Keys.{Keys}

-- a mark that is followed: whose it is, under which setting, whether that was made beside splices,
-- what it is set with, and where the splices since have left it
pub record Followed : Type 0 where
  pub buffer : ℤ
  pub ns : ℕ
  pub id : ℕ
  pub set : ℕ
  pub is_left_out : Bool
  pub keys : MarkKeys
  pub state : MarkState

-- the parts of such a mark as they are held
abbrev pub keys_seen : Keys → MarkKeys
keys_seen k = record {
  right = k.right;
  stops_right = k.stops_right;
  restore = k.restore;
  invalidate = k.invalidate;
}

abbrev pub ends_kept : KeptEnds → KeptState
ends_kept k = record { start = k.start; stop = k.stop; hidden = k.hidden }

abbrev pub part_kept : KeptPart → ChangePart × KeptState
part_kept k = (k.part, ends_kept k.ends)

-- how far a splice of a step reaches
abbrev pub reach_of_moved : Moved → Reach
reach_of_moved s = record {
  from = s.at;
  until = s.at + s.old;
  put = s.new;
  part = record { change = s.change; part = s.part; back = s.back };
}

-- where a splice leaves a mark, and where splices one after another leave it
abbrev pub followed_after_one : Followed → Moved → Followed
followed_after_one m s =
    if int_eq s.buffer m.buffer
    then record m { state = state_after m.keys m.state (reach_of_moved s) } else m

abbrev pub followed_after : List Moved → Followed → Followed
followed_after splices m = fold followed_after_one m splices

-- a mark of a buffer, followed from where it stands now; or left out
abbrev pub followed_now : Bool → ℤ → List (List ℕ) → Mark → Followed
followed_now is_left_out n lines m = record {
  buffer = n;
  ns = m.ns;
  id = m.id;
  set = m.set;
  is_left_out = is_left_out;
  keys = record {
    right = m.right;
    stops_right = option_map_or (λ far. far.right) m.stop false;
    restore = m.restore;
    invalidate = m.invalidate;
  };
  state = record {
    start = offset_of lines m.start;
    stop = option_map (λ far. offset_of lines far.pos) m.stop;
    hidden = m.hidden;
    gone = false;
    kept = [];
  };
}

-- a mark is of a setting: that of a buffer, a namespace and an id with a number
abbrev pub is_of_setting : ℤ → ℕ → ℕ → ℕ → Followed → Bool
is_of_setting n ns id set f = (int_eq f.buffer n && (f.ns == ns && f.id == id)) && f.set == set

-- a mark goes on being followed; one that wasn't is followed from where it stands, or left out
abbrev pub followed_or : Followed → Option Followed → Followed
followed_or now (Some f) = f
followed_or now None = now

abbrev pub follow_mark : Bool → List Followed → ℤ → List (List ℕ) → Mark → Followed
follow_mark is_left_out known n lines m =
    followed_or (followed_now is_left_out n lines m) (find (is_of_setting n m.ns m.id m.set) known)

-- the marks of a buffer, of the buffer of a handle, and of all buffers
abbrev pub follow_buffer : Bool → List Followed → ℤ → SeenBuffer → List Followed
follow_buffer is_left_out known n b = map (follow_mark is_left_out known n b.lines) b.marks

abbrev pub follow_there : Bool → List Followed → ℤ → Option SeenBuffer → List Followed
follow_there is_left_out known n None = []
follow_there is_left_out known n (Some b) = follow_buffer is_left_out known n b

abbrev pub follow_under : Bool → List Followed → Seen → ℤ → List Followed
follow_under is_left_out known seen n = follow_there is_left_out known n (seen.buffer n)

abbrev pub follow_all : Bool → List Followed → Seen → List Followed
follow_all is_left_out known seen = flat_map (follow_under is_left_out known seen) seen.handles

-- two ends that may be there stand at one offset, or neither is there
abbrev pub is_same_offset : Option ℕ → Option ℕ → Bool
is_same_offset None None = true
is_same_offset (Some a) (Some b) = a == b
is_same_offset _ _ = false

-- two flags are the same
abbrev pub is_same_flag : Bool → Bool → Bool
is_same_flag a b = if a then b else not b

-- a mark stands where splices left it: it is there still, at those offsets, and hidden or not
abbrev pub stands_as : List (List ℕ) → Mark → MarkState → Bool
stands_as lines m x =
    not x.gone
    && (offset_of lines m.start == x.start
    && (is_same_offset (option_map (λ far. offset_of lines far.pos) m.stop) x.stop
    && is_same_flag m.hidden x.hidden))

-- whether the mark that is there under the same setting stands elsewhere, or is shown otherwise;
-- nothing is asked of one that isn't there, or is left out
abbrev pub is_mark_elsewhere : Followed → List (List ℕ) → Option Mark → Bool
is_mark_elsewhere f lines None = false
is_mark_elsewhere f lines (Some m) =
    (m.set == f.set && not f.is_left_out) && not (stands_as lines m f.state)

abbrev pub is_elsewhere_in : Followed → Option SeenBuffer → Bool
is_elsewhere_in f None = false
is_elsewhere_in f (Some b) = is_mark_elsewhere f b.lines (mark_at b.marks f.ns f.id)

abbrev pub is_elsewhere : Seen → Followed → Bool
is_elsewhere seen f = is_elsewhere_in f (seen.buffer f.buffer)
