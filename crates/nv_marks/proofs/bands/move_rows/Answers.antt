use Rattle.std.proofs.Common.{arith}
use Rattle.nv_marks.specs.inside.Bands.{moved_band}
use Rattle.nv_marks.proofs.EachLemmas.{more_in_place}
use Rattle.nv_marks.proofs.bands.move_rows.Goals as goal

pub loop-band-preserved : goal.loop-band-preserved
loop-band-preserved c =
    more_in_place (moved_band c.args.start c.args.old c.args.new) c.args.bands.now c.loop-band.bands c.loop-band.band-index (omega arith) c.loop-band.invariant _
    c.moved.result (omega arith) c.moved.ensures
