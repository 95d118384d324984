use Rattle.std.proofs.Common.{refl, arith}
use Rattle.nv_stream.proofs.Scans.{place_opens, waits_for_length}
use Rattle.nv_stream.proofs.scan.Scan.open.Goals as goal

pub returns-then-bytes-self-clause-shows : goal.returns-then-bytes-self-clause-shows
returns-then-bytes-self-clause-shows c =
    waits_for_length _ _ _ c.args.self.now c.args.first c.args.count c.requires.place c.requires.owed c.requires.within c.requires.head (omega arith) (omega arith) (omega arith)

pub returns-clause-place : goal.returns-clause-place
returns-clause-place c =
    place_opens _ _ _ c.args.self.now _ c.args.first c.args.count c.requires.place c.requires.owed c.requires.within c.requires.head (omega arith) (omega arith) (omega arith) refl refl c.in_ok-push.ensures.items refl
