use Rattle.std.proofs.Common.{refl, ◌∙◌, arith}
use Rattle.nv_layout.specs.Content.{shape_of}
use Rattle.nv_layout.specs.Least.{along_or_across}
use Rattle.nv_layout.specs.declared.nodes.Axis.TheVariants.{Across, Down}
use Rattle.nv_layout.proofs.Measuring.{along_is, across_is, measuring_start, child_measurable, measuring_step, measuring_end}
use Rattle.nv_layout.proofs.Smaller.{no_larger}
use Rattle.nv_layout.proofs.placing.+measure.Goals as goal

pub measure_group-loop-place-init : goal.measure_group-loop-place-init
measure_group-loop-place-init t c =
    measuring_start c.args.axis c.args.trees.now c.len-start.result c.args.into.now.items c.push_zeros.new.into.items (omega arith) c.in_ok-push_zeros.ensures

pub measure_group-measure-requires : goal.measure_group-measure-requires
measure_group-measure-requires t c = (
  omega (arith, no_larger c.args.trees.now c.loop-place.place c.index-trees-place.result c.loop-place-test.true c.index-trees-place.is),
  child_measurable c.args.axis c.args.trees.now c.loop-place.place c.len-start.result c.loop-place.along c.loop-place.across c.args.into.now.items c.loop-place.into.items c.index-trees-place.result c.loop-place-test.true c.index-trees-place.is c.loop-place.invariant c.requires.along c.requires.across,
)

pub measure_group-loop-place-preserved : goal.measure_group-loop-place-preserved
measure_group-loop-place-preserved t c =
    measuring_step c.args.axis c.args.trees.now c.loop-place.place c.len-start.result c.loop-place.along c.loop-place.across c.args.into.now.items c.loop-place.into.items c.index-trees-place.result c.loop-place-test.true c.index-trees-place.is c.loop-place.invariant
    c.measure.new.into.items _ c.size_along-least.result c.size_across.result c.gap_behind.result _
    c.in_ok-size.ensures.below refl
    (c.size_along-least.ensures ∙ (λ i. along_or_across Across c.args.axis (c.in_ok-size.ensures.width i) (c.in_ok-size.ensures.height i)) ∙ along_is c.args.axis (shape_of c.index-trees-place.result))
    (c.size_across.ensures ∙ (λ i. along_or_across Down c.args.axis (c.in_ok-size.ensures.width i) (c.in_ok-size.ensures.height i)) ∙ across_is c.args.axis (shape_of c.index-trees-place.result))
    c.gap_behind.ensures c.max-across.ensures

pub measure_group-returns : goal.measure_group-returns
measure_group-returns t c =
    let all = measuring_end c.args.axis c.args.trees.now c.loop-place.place c.len-start.result c.loop-place.along c.loop-place.across c.args.into.now.items c.loop-place.into.items c.loop-place-test.false c.loop-place.invariant in
    record { along = all.0; across = all.1; below = all.2 }
