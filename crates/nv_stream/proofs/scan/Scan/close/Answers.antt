use Rattle.std.proofs.Common.{refl}
use Rattle.nv_stream.proofs.Scans.{place_closes}
use Rattle.nv_stream.proofs.scan.Scan.close.Goals as goal

pub returns-in-Some-clause-place : goal.returns-in-Some-clause-place
returns-in-Some-clause-place c =
    place_closes _ _ _ c.args.self.now _ c.in-Some.owed c.requires.place c.requires.none_owed c.in-Some.ensures.items refl refl refl
