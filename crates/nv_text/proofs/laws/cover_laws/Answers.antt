use Rattle.nv_text.proofs.PartLemmas.{lines_are_covered}
use Rattle.nv_text.proofs.laws.cover_laws.Goals as goal

pub returns : goal.returns
returns c = lines_are_covered
