use Rattle.std.proofs.Common.{[]}
use Rattle.nv_world.specs.Worlds.{start_of}
use Rattle.nv_io.proofs.StreamLemmas.{each_none}
use Rattle.nv_session.proofs.Leaving.{ends_before}
use Rattle.nv_session.proofs.session.alone.Goals as goal

pub returns-in_default-clause-ends : goal.returns-in_default-clause-ends
returns-in_default-clause-ends g c =
    ([], each_none _, ends_before (start_of c.args.world.now) (g.I.Source.words c.args.input.now).left _ c.args.world.now.history c.requires.fresh)
