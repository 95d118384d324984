use Rattle.std.proofs.Common.{◌≤◌, take}
use Rattle.nv_marks.specs.declared.bands.Band.{Band}
use Rattle.nv_marks.specs.inside.Records.{ForEach}
use Rattle.nv_marks.proofs.bands.first_row.Given as goal

abbrev pub invariant-loop-band : goal.invariant-loop-band
invariant-loop-band l = (l.first ≤ l.row) × ForEach (λ (b : Band). l.first ≤ b.first) (take l.band-index l.bands)
