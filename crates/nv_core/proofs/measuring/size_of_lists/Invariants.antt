use Rattle.std.proofs.Common.{◌≡◌, drop, take}
use Rattle.nv_lines.specs.Excerpts.{list_lines}
use Rattle.nv_msgpack.specs.Shortest.{HaveSpellings}
use Rattle.nv_args.specs.Texts.{strings}
use Rattle.nv_core.specs.Sizes.{memory_with}
use Rattle.nv_core.proofs.measuring.size_of_lists.Given as goal

abbrev pub invariant-loop-list : goal.invariant-loop-list
invariant-loop-list l = record {
  size : memory_with (strings (list_lines (drop l.list-index l.lists))) l.size ≡ memory_with (strings (list_lines l.lists)) 32;
  spelled : HaveSpellings (strings (list_lines (take l.list-index l.lists)));
}
