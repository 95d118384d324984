use Rattle.std.proofs.Common.{◌∙◌, ap, sym, subst, drop}
use Rattle.nv_places.specs.Places.{IsNarrow}
use Rattle.nv_marks.specs.declared.record.Record.{Record}
use Rattle.nv_marks.specs.inside.Records.{ForEach}
use Rattle.nv_marks.specs.inside.Chunks.{Piece, records_of}
use Rattle.nv_marks.proofs.InPlaceLemmas.{part_each}
use Rattle.nv_marks.proofs.chunk.Chunk.read_part.Goals as goal

pub place_all-requires-clause-narrow : goal.place_all-requires-clause-narrow
place_all-requires-clause-narrow c =
    part_each (λ (r : Record). IsNarrow r.pos) c.self.inside.base c.self.inside.kept.items c.split_at.result.1.now c.split_at-2.result.0.now c.args.gap.first c.args.gap.count
    (c.split_at.ensures.back ∙ ap (drop c.args.gap.first) c.deref.ensures.value) c.split_at-2.ensures.front
    (subst (λ (p : Piece). ForEach (λ (r : Record). IsNarrow r.pos) (records_of p)) (sym c.self.view_is) c.requires.narrow)
