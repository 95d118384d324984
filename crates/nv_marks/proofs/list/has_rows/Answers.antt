use Rattle.std.proofs.Common.{rules, tests}
use Rattle.std.proofs.lemmas.Iterator.{YieldsList-from_slice}
use Rattle.std.proofs.lemmas.Iterator.Search.{any_from_yields_List}
use Rattle.nv_marks.specs.inside.Bands.{meets_rows}
use Rattle.nv_marks.proofs.list.has_rows.Goals as goal

pub returns : goal.returns
returns c =
    any_from_yields_List (meets_rows c.args.low c.args.high) _ _ _ c.any.ensures.ran (YieldsList-from_slice c.args.bands.now cc) (λ x b q k. search (rules, tests))
