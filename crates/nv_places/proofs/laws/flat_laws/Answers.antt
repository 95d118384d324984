use Rattle.nv_places.proofs.FlatLemmas.{flat-append, lines_of-flat, flat-splice, flat-joined}
use Rattle.nv_places.proofs.laws.flat_laws.Goals as goal

pub returns : goal.returns
returns c = record { joins = flat-append; keeps_lines = lines_of-flat; splices = flat-splice; ends = flat-joined }
