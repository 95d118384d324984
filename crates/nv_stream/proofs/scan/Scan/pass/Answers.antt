use Rattle.std.proofs.Common.{refl, arith}
use Rattle.nv_stream.proofs.Scans.{place_passes, waits_for_bytes}
use Rattle.nv_stream.proofs.scan.Scan.pass.Goals as goal

pub returns-then-bytes-self-clause-shows : goal.returns-then-bytes-self-clause-shows
returns-then-bytes-self-clause-shows c =
    waits_for_bytes _ _ _ c.args.self.now c.args.least c.requires.place c.requires.owed c.requires.within c.requires.head (omega arith) (omega arith)

pub returns-clause-place : goal.returns-clause-place
returns-clause-place c =
    place_passes _ _ _ c.args.self.now _ c.args.least c.requires.place c.requires.owed c.requires.within c.requires.head (omega arith) (omega arith) refl refl refl refl
