use Rattle.nv_places.proofs.PlaceLemmas.{place-offset, offset-place}
use Rattle.nv_places.proofs.MoveLemmas.{places_keep_order}
use Rattle.nv_places.proofs.laws.offset_laws.Goals as goal

pub returns : goal.returns
returns c = record { of_places = place-offset; of_offsets = offset-place; order = places_keep_order }
