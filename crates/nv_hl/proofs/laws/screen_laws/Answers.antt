use Rattle.nv_hl.proofs.LawLemmas.{cells_stand_by_rows}
use Rattle.nv_hl.proofs.laws.screen_laws.Goals as goal

pub returns : goal.returns
returns c = cells_stand_by_rows
