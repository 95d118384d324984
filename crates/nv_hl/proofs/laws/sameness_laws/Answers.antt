use Rattle.nv_hl.proofs.LawLemmas.{same_attrs_are_equal}
use Rattle.nv_hl.proofs.laws.sameness_laws.Goals as goal

pub returns : goal.returns
returns c = same_attrs_are_equal
