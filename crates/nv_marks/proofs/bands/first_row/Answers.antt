use Rattle.std.proofs.Common.{◌≤◌, subst, arith, List}
use Rattle.std.proofs.lemmas.List.{take_all}
use Rattle.nv_marks.specs.declared.bands.Band.{Band}
use Rattle.nv_marks.specs.inside.Records.{ForEach}
use Rattle.nv_marks.proofs.BandLemmas.{each_more, min_first, min_second}
use Rattle.nv_marks.proofs.bands.first_row.Goals as goal

pub loop-band-preserved : goal.loop-band-preserved
loop-band-preserved c = (
  omega (arith, c.loop-band.invariant.0, min_first _ _ _ c.min-least.ensures),
  each_more (λ (b : Band). c.loop-band.first ≤ b.first) (λ (b : Band). c.min-least.result ≤ b.first) c.args.bands.now c.loop-band.band-index _ c.loop-band-test.true
      (λ b least. omega (arith, least, min_first _ _ _ c.min-least.ensures)) c.loop-band.invariant.1 (min_second _ _ _ c.min-least.ensures),
)

pub returns-clause-each : goal.returns-clause-each
returns-clause-each c =
    subst (λ (l : List Band). ForEach (λ (b : Band). c.loop-band.first ≤ b.first) l) (take_all c.loop-band.band-index c.args.bands.now c.loop-band-test.false)
    c.loop-band.invariant.1
