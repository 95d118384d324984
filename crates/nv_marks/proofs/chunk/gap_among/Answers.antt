use Rattle.std.proofs.Common.{not, leb, rules, arith}
use Rattle.std.proofs.lemmas.List.Sorted.{IsPartitionPoint-from_clause}
use Rattle.nv_places.specs.Places.{further, is_before}
use Rattle.nv_marks.specs.declared.record.Relative.{Relative}
use Rattle.nv_marks.proofs.InPlaceLemmas.{kept_before, kept_up_to, Sort-rest}
use Rattle.nv_marks.proofs.GapLemmas.{kept_to_row, gap_is}
use Rattle.nv_marks.proofs.chunk.gap_among.Goals as goal

pub returns : goal.returns
returns c =
    let rest = Sort-rest c.args.base c.args.kept.now c.split_at.result.1.now c.partition_point-first.result c.split_at.ensures.back c.requires.in_order in
    let front = IsPartitionPoint-from_clause (λ (k : Relative). is_before (further c.args.base k.by) c.args.start) _ _ c.partition_point-first.ensures.partitioned
    (kept_before c.args.base c.args.start c.args.kept.now c.requires.in_order) (λ a r q k. search rules) in
    let back = IsPartitionPoint-from_clause (λ (k : Relative). not (is_before c.args.end (further c.args.base k.by))) _ _ c.partition_point-held.ensures.partitioned
    (kept_up_to c.args.base c.args.end c.split_at.result.1.now rest) (λ a r q k. search rules) in
    let row = IsPartitionPoint-from_clause (λ (k : Relative). leb (further c.args.base k.by).row c.args.end.row) _ _ c.partition_point-count.ensures.partitioned
    (kept_to_row c.args.base c.args.end.row c.split_at.result.1.now rest) (λ a r q k. search rules) in
    gap_is c.args.start c.args.end c.args.base c.args.kept.now c.split_at.result.1.now c.partition_point-first.result c.partition_point-held.result
    c.partition_point-count.result c.split_at.ensures.back c.partition_point-first.ensures.bound c.partition_point-count.ensures.bound (grind arith) (grind arith)
    front back row
