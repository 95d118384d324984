use Rattle.std.proofs.Common.{arith}
use Rattle.nv_io.proofs.PieceLemmas.{after_piece_is}
use Rattle.nv_io.proofs.memory.Pieces.next.Goals as goal

pub returns-clause-after : goal.returns-clause-after
returns-clause-after c =
    rw (← c.self.view_is, c.following-self-inside.ensures)
    (after_piece_is c.self.inside.bytes.items c.self.inside.cuts.items c.self.inside.at c.min-count.result c.self.inside.turn c.len-2.result (omega (arith, c.len-2.ensures, c.self.inside.cuts.ok.0)))
