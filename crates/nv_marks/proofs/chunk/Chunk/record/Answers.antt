use Rattle.std.proofs.Common.{◌<◌, ◌∙◌, ap, sym, subst, get_or, length}
use Rattle.std.proofs.lemmas.List.{get_or-map}
use Rattle.nv_places.specs.Places.{IsNarrow}
use Rattle.nv_marks.specs.declared.record.Relative.{Relative}
use Rattle.nv_marks.specs.declared.record.Record.{Record}
use Rattle.nv_marks.specs.inside.Records.{ForEach}
use Rattle.nv_marks.specs.inside.Chunks.{Piece, placed_record, records_of}
use Rattle.nv_marks.proofs.EachLemmas.{Each-get_or, Each-unmap}
use Rattle.nv_marks.proofs.chunk.Chunk.record.Goals as goal

pub placed-requires : goal.placed-requires
placed-requires c =
    let kept = Each-unmap (λ (r : Record). IsNarrow r.pos) (placed_record c.self.inside.base) c.self.inside.kept.items
    (subst (λ (p : Piece). ForEach (λ (r : Record). IsNarrow r.pos) (records_of p)) (sym c.self.view_is) c.requires.narrow) in
    let within = subst (λ (p : Piece). c.args.at < length p.kept) (sym c.self.view_is) c.requires.within in
    subst (λ (k : Relative). IsNarrow (placed_record c.self.inside.base k).pos) (sym c.index.ensures)
    (Each-get_or (λ (k : Relative). IsNarrow (placed_record c.self.inside.base k).pos) c.self.inside.kept.items c.args.at c.index.result.now within kept)

pub returns : goal.returns
returns c =
    let within = subst (λ (p : Piece). c.args.at < length p.kept) (sym c.self.view_is) c.requires.within in
    c.placed.ensures ∙ ap (placed_record c.self.inside.base) c.index.ensures
    ∙ sym (get_or-map (placed_record c.self.inside.base) c.self.inside.kept.items c.args.at c.index.result.now c.placed.result within)
    ∙ ap (λ (p : Piece). get_or (records_of p) c.args.at c.placed.result) c.self.view_is
