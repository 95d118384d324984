use Rattle.nv_marks.proofs.BandLemmas.{has_widened, kept_by_widening}
use Rattle.nv_marks.proofs.bands.widen.Goals as goal

pub returns-clause-kept : goal.returns-clause-kept
returns-clause-kept c = kept_by_widening c.args.start c.args.stop c.args.bands.now c.near_to-at.result _ c.widened.result c.near_to-at.ensures c.widened.ensures

pub returns-clause-own : goal.returns-clause-own
returns-clause-own c = has_widened c.args.start c.args.stop c.args.bands.now c.near_to-at.result _ c.widened.result c.near_to-at.ensures c.widened.ensures
