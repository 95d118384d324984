use Rattle.std.proofs.Common.{length}
use Rattle.nv_linedraw.proofs.lines.+lay_pieces.Given as goal

abbrev pub decreases-lay_pieces : goal.decreases-lay_pieces
decreases-lay_pieces l = length l.pieces.now
