use Rattle.std.proofs.Common.{◌≡◌, take}
use Rattle.std.specs.Prelude.{filter}
use Rattle.nv_marks.specs.inside.Bands.{reaches_row}
use Rattle.nv_marks.proofs.bands.bands_reaching.Given as goal

abbrev pub invariant-loop-band : goal.invariant-loop-band
invariant-loop-band l = l.found.items ≡ filter (reaches_row l.query.from.row) (take l.band-index l.bands)
