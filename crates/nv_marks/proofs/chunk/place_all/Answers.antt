use Rattle.std.proofs.Common.{get_or, arith}
use Rattle.nv_places.specs.Places.{IsNarrow}
use Rattle.nv_marks.specs.declared.record.Relative.{Relative}
use Rattle.nv_marks.specs.declared.record.Record.{Record}
use Rattle.nv_marks.specs.inside.Chunks.{placed_record}
use Rattle.nv_marks.proofs.EachLemmas.{Each-get_or, Each-unmap}
use Rattle.nv_marks.proofs.chunk.place_all.Goals as goal

pub placed-requires : goal.placed-requires
placed-requires c =
    let fits : (d : Relative) → IsNarrow (placed_record c.args.base (get_or c.args.kept.now c.loop-one.one-index d)).pos =
    λ d. Each-get_or (λ (k : Relative). IsNarrow (placed_record c.args.base k).pos) c.args.kept.now c.loop-one.one-index d (omega arith)
    (Each-unmap (λ (r : Record). IsNarrow r.pos) (placed_record c.args.base) c.args.kept.now c.requires.narrow) in
    fits _
