use Rattle.std.proofs.Common.{◌+◌, ◌++◌, true, length, sym, ap, subst, ◌∙◌, arith}
use Rattle.std.proofs.lemmas.Str.{IsUtf8-drop}
use Rattle.std.specs.List.{concat, flat_map}
use Rattle.std.specs.Str.{IsUtf8}
use Rattle.unicode_segmentation.specs.Grapheme.{is_grapheme_break}
use Rattle.unicode_segmentation.proofs.SegmentsLemmas.{concat-segments}
use Rattle.nv_text.specs.Pieces.{cluster_parts, pieces_from}
use Rattle.nv_text.proofs.FrontLemmas.{front_pushed}
use Rattle.nv_text.proofs.cutting.push_text.Goals as goal

pub loop-cluster-init : goal.loop-cluster-init
loop-cluster-init c =
    let front = c.split_at.result.0.now in
    let rest = c.split_at.result.1.now in
    let utf8 = subst IsUtf8 (sym c.split_at.ensures.back) (IsUtf8-drop c.args.text.now c.plain_len.result c.utf8.text c.plain_len.ensures.boundary) in record {
      pushed = ap (λ ls. c.push_plain.new.pieces.items ++ pieces_from (c.args.from + length front) (flat_map cluster_parts ls)) c.graphemes-clusters.ensures.left
          ∙ front_pushed c.args.text.now front rest c.plain_len.result c.args.from c.args.pieces.now.items c.push_plain.new.pieces.items
          c.split_at.ensures.front c.split_at.ensures.back c.plain_len.ensures.plain c.plain_len.ensures.cut c.in_ok-push_plain.ensures;
      place = omega (
        arith,
        ap (λ ls. length (concat ls)) c.graphemes-clusters.ensures.left ∙ ap length (concat-segments (is_grapheme_break true) rest utf8),
        c.split_at.ensures.front_len,
        c.split_at.ensures.back_len,
      );
    }
