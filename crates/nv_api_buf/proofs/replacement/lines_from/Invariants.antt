use Rattle.std.proofs.Common.{◌≡◌, ◌++◌, map, drop, false}
use Rattle.std.specs.List.{list_any}
use Rattle.nv_value.specs.View.{content}
use Rattle.nv_args.specs.Texts.{has_newline}
use Rattle.nv_api_buf.specs.inside.Parts.{texts_of}
use Rattle.nv_api_buf.proofs.replacement.lines_from.Given as goal

abbrev pub invariant-loop-value : goal.invariant-loop-value
invariant-loop-value l = record {
  all : l.lines.items ++ texts_of (map content (drop l.value-index l.strings)) ≡ texts_of (map content l.strings);
  clean : list_any has_newline l.lines.items ≡ false;
}
