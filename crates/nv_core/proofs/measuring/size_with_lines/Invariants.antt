use Rattle.std.proofs.Common.{◌≡◌, drop, take}
use Rattle.nv_msgpack.specs.Shortest.{HaveSpellings}
use Rattle.nv_args.specs.Texts.{strings}
use Rattle.nv_core.specs.Sizes.{memory_with}
use Rattle.nv_core.proofs.measuring.size_with_lines.Given as goal

abbrev pub invariant-loop-line : goal.invariant-loop-line
invariant-loop-line l = record {
  size : memory_with (strings (drop l.line-index l.lines)) l.size ≡ memory_with (strings l.lines) l.fn.before;
  spelled : HaveSpellings (strings (take l.line-index l.lines));
}
