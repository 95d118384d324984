use Rattle.nv_stream.proofs.Taken as taken
use Rattle.nv_stream.proofs.laws.flaws_stay.Goals as goal

pub returns : goal.returns
returns c = taken.flaws_stay
