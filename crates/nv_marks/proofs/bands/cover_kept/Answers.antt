use Rattle.std.proofs.Common.{◌∙◌, refl, subst, arith, List, Option}
use Rattle.std.specs.Prelude.{IfSome}
use Rattle.std.proofs.lemmas.List.{take_all}
use Rattle.nv_marks.specs.Marks.{mark_at}
use Rattle.nv_marks.specs.declared.extmark.Mark.{Mark}
use Rattle.nv_marks.specs.declared.keeping.Kept.{Kept}
use Rattle.nv_marks.specs.inside.Bands.{HasBand}
use Rattle.nv_marks.specs.inside.Chunks.{spread_records}
use Rattle.nv_marks.specs.inside.Records.{ForEach, marks_among}
use Rattle.nv_marks.proofs.BandLemmas.{each_more, more_found}
use Rattle.nv_marks.proofs.bands.cover_kept.Goals as goal

pub loop-one-init : goal.loop-one-init
loop-one-init c = (refl, λ s e had. had, tt)

pub widen_for-requires : goal.widen_for-requires
widen_for-requires c = omega (arith, c.loop-one.invariant.0, c.requires.some)

pub loop-one-preserved : goal.loop-one-preserved
loop-one-preserved c = (
  c.widen_for.ensures.len ∙ c.loop-one.invariant.0,
  λ s e had. c.widen_for.ensures.kept s e (c.loop-one.invariant.1 s e had),
  each_more (λ (k : Kept). IfSome (mark_at (marks_among (spread_records c.args.store.now.chunks.items)) k.ns k.id) (HasBand c.loop-one.bands))
      (λ (k : Kept). IfSome (mark_at (marks_among (spread_records c.args.store.now.chunks.items)) k.ns k.id) (HasBand c.widen_for.new.bands))
      c.args.kept.now c.loop-one.one-index _ c.loop-one-test.true
      (λ k has. more_found c.loop-one.bands c.widen_for.new.bands c.widen_for.ensures.kept
      (mark_at (marks_among (spread_records c.args.store.now.chunks.items)) k.ns k.id) has)
      c.loop-one.invariant.2
      (subst (λ (o : Option Mark). IfSome o (HasBand c.widen_for.new.bands)) c.find_next-found.ensures c.widen_for.ensures.own),
)

pub returns-clause-own : goal.returns-clause-own
returns-clause-own c =
    subst (λ (l : List Kept). ForEach (λ k. IfSome (mark_at (marks_among (spread_records c.args.store.now.chunks.items)) k.ns k.id) (HasBand c.loop-one.bands)) l)
    (take_all c.loop-one.one-index c.args.kept.now c.loop-one-test.false) c.loop-one.invariant.2
