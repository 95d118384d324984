use Rattle.std.proofs.Common.{◌∙◌, ap, sym, subst, get_or, arith}
use Rattle.nv_places.specs.Places.{IsNarrow}
use Rattle.nv_marks.proofs.InPlaceLemmas.{start_back}
use Rattle.nv_marks.proofs.EachLemmas.{Each-get_or, Each-unmap, next_in_place, more_in_place}
use Rattle.nv_marks.specs.declared.record.Record.{Record}
use Rattle.nv_marks.specs.declared.record.Relative.{Relative}
use Rattle.nv_marks.specs.inside.Chunks.{kept_from, placed_record, rebased_from, text_start}
use Rattle.nv_marks.proofs.chunk.rebase_all.Goals as goal

pub placed-requires : goal.placed-requires
placed-requires c =
    let fits : (d : Relative) → IsNarrow (placed_record c.args.base (get_or c.loop-one.kept c.loop-one.one-index d)).pos =
    λ d. subst (λ (k : Relative). IsNarrow (placed_record c.args.base k).pos)
    (sym (next_in_place (rebased_from c.args.base) c.args.kept.now c.loop-one.kept c.loop-one.one-index (omega arith) c.loop-one.invariant d))
    (Each-get_or (λ (k : Relative). IsNarrow (placed_record c.args.base k).pos) c.args.kept.now c.loop-one.one-index d (omega arith)
    (Each-unmap (λ (r : Record). IsNarrow r.pos) (placed_record c.args.base) c.args.kept.now c.requires.narrow)) in
    fits _

pub loop-one-preserved : goal.loop-one-preserved
loop-one-preserved c =
    more_in_place (rebased_from c.args.base) c.args.kept.now c.loop-one.kept c.loop-one.one-index (omega arith) c.loop-one.invariant _ c.kept_from.result (omega arith)
    (c.kept_from.ensures ∙ ap (kept_from text_start) c.placed.ensures)

pub returns-then-is_start : goal.returns-then-is_start
returns-then-is_start c =
    let at = c.is_start.ensures c.if-is_start.true in
    start_back c.args.base c.args.kept.now at.0 at.1
