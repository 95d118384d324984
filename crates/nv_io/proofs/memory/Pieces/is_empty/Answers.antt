use Rattle.std.proofs.Common.{arith}
use Rattle.nv_io.proofs.PieceLemmas.{drop-nil_iff}
use Rattle.nv_io.proofs.memory.Pieces.is_empty.Goals as goal

pub returns : goal.returns
returns c = rw (← c.self.view_is) (drop-nil_iff c.self.inside.bytes.items c.self.inside.at c.len.result (omega (arith, c.len.ensures, c.self.inside.bytes.ok.0)))
