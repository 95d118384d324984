use Rattle.std.proofs.Common.{◌≡◌, ◌∙◌, ap, map}
use Rattle.std.specs.List.{list_any}
use Rattle.nv_value.specs.View.{pair_content}
use Rattle.nv_args.specs.Arguments.{last_pairs}
use Rattle.nv_args.specs.Chunks.{GivenChunk}
use Rattle.nv_args.specs.Texts.{has_newline}
use Rattle.nv_api_mark.specs.Setting.{chunk_with, text_chunks}
use Rattle.nv_api_mark.proofs.painting.note_with.Goals as goal

pub chunks_with-requires : goal.chunks_with-requires
chunks_with-requires c = ap (list_any (λ (p : GivenChunk). has_newline p.0)) c.text_items-items.ensures ∙ c.requires

pub returns : goal.returns
returns c =
    let pairs = last_pairs (map pair_content c.args.pairs.now) in
    let all : c.in_ok-chunks.chunks.items ≡ map (chunk_with c.args.editor.now.stage.groups) (text_chunks pairs) =
    c.in_ok-chunks.ensures ∙ (λ i. map (chunk_with (c.groups-groups.ensures i)) (c.text_items-items.ensures i)) in
    c.new.ensures ∙ (λ i. record { chunks = all i; at = c.text_place_of-at.ensures i })
