use Rattle.std.proofs.Common.{◌≡◌, ◌++◌, map, take, drop}
use Rattle.nv_marks.specs.inside.Bands.{moved_band}
use Rattle.nv_marks.proofs.bands.move_rows.Given as goal

abbrev pub invariant-loop-band : goal.invariant-loop-band
invariant-loop-band l =
    l.bands ≡ map (moved_band l.start l.old l.new) (take l.band-index l.fn.bands) ++ drop l.band-index l.fn.bands
