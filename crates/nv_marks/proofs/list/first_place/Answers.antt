use Rattle.nv_marks.proofs.BandLemmas.{early_from, early_row}
use Rattle.nv_marks.proofs.list.first_place.Goals as goal

pub returns-then-not-query : goal.returns-then-not-query
returns-then-not-query c = λ all r known start before. early_from all c.args.query.now c.args.bands.now r c.if-not-query.true before

pub returns : goal.returns
returns c = λ all r known start before.
    early_row all c.args.query.now c.args.bands.now c.first_row.result r known start c.first_row.ensures.within c.first_row.ensures.each before
