use Rattle.std.proofs.Common.{arith}
use Rattle.nv_stream.proofs.Scans.{waits_at_end}
use Rattle.nv_stream.proofs.scan.Scan.step.Goals as goal

pub returns-then-self-bytes-clause-shows : goal.returns-then-self-bytes-clause-shows
returns-then-self-bytes-clause-shows c = waits_at_end _ _ _ c.args.self.now c.requires (omega arith) (omega arith)
