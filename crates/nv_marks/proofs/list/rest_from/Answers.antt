use Rattle.nv_places.specs.Places.{IsNarrow}
use Rattle.nv_marks.specs.inside.Stored.{IsEndKnown}
use Rattle.nv_marks.proofs.InPlaceLemmas.{Sort-rest, rest_not_before, rest_within, rest_each}
use Rattle.nv_marks.proofs.list.rest_from.Goals as goal

pub returns-clause-in_order : goal.returns-clause-in_order
returns-clause-in_order c =
    Sort-rest c.args.base c.args.kept.now c.split_at.result.1.now c.count_to-first.result c.split_at.ensures.back c.requires.in_order

pub returns-clause-narrow : goal.returns-clause-narrow
returns-clause-narrow c =
    λ each. rest_each c.args.from c.args.base c.args.kept.now c.split_at.result.1.now c.count_to-first.result c.split_at.ensures.back c.count_to-first.ensures.point (λ r. IsNarrow r.pos) each

pub returns-clause-ends : goal.returns-clause-ends
returns-clause-ends c =
    λ all each. rest_each c.args.from c.args.base c.args.kept.now c.split_at.result.1.now c.count_to-first.result c.split_at.ensures.back c.count_to-first.ensures.point (IsEndKnown all) each

pub returns-clause-from : goal.returns-clause-from
returns-clause-from c =
    rest_not_before c.args.from c.args.base c.args.kept.now c.split_at.result.1.now c.count_to-first.result c.split_at.ensures.back c.count_to-first.ensures.point

pub returns-clause-within : goal.returns-clause-within
returns-clause-within c =
    rest_within c.args.from c.args.base c.args.kept.now c.split_at.result.1.now c.count_to-first.result c.split_at.ensures.back c.count_to-first.ensures.point
