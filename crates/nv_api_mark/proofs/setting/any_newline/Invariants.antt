-- None in front holds a line feed.
use Rattle.std.proofs.Common.{◌≡◌, map}
use Rattle.std.specs.Prelude.{flat_map, option_to_list}
use Rattle.std.specs.List.{list_any}
use Rattle.nv_value.specs.View.{content}
use Rattle.nv_args.specs.Chunks.{GivenChunk, chunk_in}
use Rattle.nv_args.specs.Texts.{has_newline}
use Rattle.nv_api_mark.proofs.Parts.{parts_from}
use Rattle.nv_api_mark.proofs.setting.any_newline.Given as goal

abbrev pub invariant-loop-item : goal.invariant-loop-item
invariant-loop-item l =
    list_any (λ (c : GivenChunk). has_newline c.0) (parts_from l.items l.item-index)
    ≡ list_any (λ (c : GivenChunk). has_newline c.0) (flat_map (λ t. option_to_list (chunk_in t)) (map content l.items))
