use Rattle.std.proofs.Common.{rules}
use Rattle.std.proofs.lemmas.List.Sorted.{IsPartitionPoint-from_clause}
use Rattle.nv_marks.specs.declared.record.Relative.{Relative}
use Rattle.nv_marks.specs.inside.Records.{precedes}
use Rattle.nv_marks.specs.inside.Chunks.{placed_record}
use Rattle.nv_marks.proofs.InPlaceLemmas.{kept_below, point_placed}
use Rattle.nv_marks.proofs.chunk.count_below.Goals as goal

pub returns-clause-point : goal.returns-clause-point
returns-clause-point c =
    let point = IsPartitionPoint-from_clause (λ (k : Relative). precedes (placed_record c.args.base k) c.args.one.now) _ _ c.partition_point.ensures.partitioned
    (kept_below c.args.base c.args.one.now c.args.kept.now c.requires.in_order) (λ a r q k. search rules) in
    point_placed c.args.base c.args.one.now c.args.kept.now c.partition_point.result c.partition_point.ensures.bound point
