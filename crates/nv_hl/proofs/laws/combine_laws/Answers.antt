use Rattle.nv_hl.proofs.LawLemmas.{associative}
use Rattle.nv_hl.proofs.laws.combine_laws.Goals as goal

pub returns-clause-associative : goal.returns-clause-associative
returns-clause-associative c = associative
