use Rattle.std.proofs.Common.{◌≡◌, ◌++◌, map, drop, true}
use Rattle.nv_value.specs.View.{content, contents}
use Rattle.nv_msgpack.specs.Shortest.{HaveSpellings}
use Rattle.nv_api_mark.specs.Listing.{listed_mark}
use Rattle.nv_api_mark.proofs.listing.detailed_marks.Given as goal

abbrev pub invariant-loop-mark : goal.invariant-loop-mark
invariant-loop-mark l = record {
  all : map content l.items.items ++ map (listed_mark l.editor.stage l.live.handle true) (drop l.mark-index l.marks)
      ≡ map (listed_mark l.editor.stage l.live.handle true) l.marks;
  spelled : HaveSpellings (contents l.items.items);
}
