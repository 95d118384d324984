use Rattle.nv_layout.proofs.Divisions.{division_is_whole}
use Rattle.nv_layout.proofs.laws.division_is_whole.Goals as goal

pub returns : goal.returns
returns c = division_is_whole
