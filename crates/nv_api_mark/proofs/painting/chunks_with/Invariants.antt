-- The parts of a front are there, and none of the others holds a line feed.
use Rattle.std.proofs.Common.{◌≡◌, ◌++◌, false, map}
use Rattle.std.specs.Prelude.{flat_map, option_to_list}
use Rattle.std.specs.List.{list_any}
use Rattle.nv_value.specs.View.{content}
use Rattle.nv_args.specs.Chunks.{GivenChunk, chunk_in}
use Rattle.nv_args.specs.Texts.{has_newline}
use Rattle.nv_api_mark.specs.Setting.{chunk_with}
use Rattle.nv_api_mark.proofs.Parts.{parts_from}
use Rattle.nv_api_mark.proofs.painting.chunks_with.Given as goal

abbrev pub invariant-loop-item : goal.invariant-loop-item
invariant-loop-item l = record {
  put : l.chunks.items ++ map (chunk_with l.groups) (parts_from l.items l.item-index)
      ≡ map (chunk_with l.groups) (flat_map (λ t. option_to_list (chunk_in t)) (map content l.items));
  lines : list_any (λ (c : GivenChunk). has_newline c.0) (parts_from l.items l.item-index) ≡ false;
}
