use Rattle.std.proofs.Common.{[]}
use Rattle.nv_io.proofs.StreamLemmas.{each_none}
use Rattle.nv_session.proofs.Leaving.{ends_before}
use Rattle.nv_run.specs.Commands.{usual_start}
use Rattle.nv_run.proofs.command.embed.Goals as goal

pub returns-in_default-clause-ends : goal.returns-in_default-clause-ends
returns-in_default-clause-ends g c =
    ([], each_none _, ends_before (usual_start c.args.outbox) (g.I.Source.words c.args.input.now).left _ c.args.kept.now.entries c.requires.empty)
