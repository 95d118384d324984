use Rattle.nv_places.proofs.PlaceLemmas.{end_of-append, end_of-flat, extent_of-flat, extent_of-joined}
use Rattle.nv_places.proofs.laws.place_laws.Goals as goal

pub returns : goal.returns
returns c = record { add = end_of-append; end = end_of-flat; lines = extent_of-flat; joined = extent_of-joined }
