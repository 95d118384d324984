use Rattle.nv_mirror.proofs.Told as told
use Rattle.nv_mirror.proofs.laws.listing_grows.Goals as goal

pub returns : goal.returns
returns c = told.listing_grows
