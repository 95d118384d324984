-- What is done to marks of which all is removed (help: nvim_buf_set_extmark(), key invalidate).
use Rattle.std.specs.Prelude.{not, true, List, map, filter, None}
use Rattle.nv_places.specs.declared.place.Pos.{Pos}
use Rattle.nv_places.specs.declared.place.Extent.{Extent}
use Rattle.nv_places.specs.Places.{further}
use Rattle.nv_marks.specs.Keeping.{is_struck}
use Rattle.nv_marks.specs.declared.extmark.Mark.{Mark}
use Rattle.nv_marks.specs.declared.keeping.Kept.{Kept}

-- what is put back of those that are left, so that they are hidden, and those that are gone
pub record Strike : Type 0 where
  pub hidden : List Kept
  pub gone : List Mark

-- what is put back of a mark so that it is hidden and stays where it is
abbrev pub hiding_mark : Mark → Kept
hiding_mark m =
    record { ns = m.ns; id = m.id; set = m.set; start = None; stop = None; hidden = true }

-- the marks of which all is removed, before the extent `old` from `start` on is replaced
abbrev pub struck_among : Pos → Extent → List Mark → List Mark
struck_among start old marks = filter (is_struck start (further start old)) marks

abbrev pub struck_of : Pos → Extent → List Mark → Strike
struck_of start old marks = record {
  hidden = map hiding_mark (filter (λ m. m.restore) (struck_among start old marks));
  gone = filter (λ m. not m.restore) (struck_among start old marks);
}
