use Rattle.std.proofs.Common.{refl}
use Rattle.nv_run.specs.Commands.{usual_start}
use Rattle.nv_run.proofs.Books.{given_out}
use Rattle.nv_run.proofs.Servers.{ends_later, ends_run, none_opened}
use Rattle.nv_run.proofs.serving.serve.Goals as goal

pub returns-in_default-sink-clause-ends : goal.returns-in_default-sink-clause-ends
returns-in_default-sink-clause-ends g c = none_opened _ (usual_start c.args.outbox) c.args.sessions c.args.kept.now.entries _ _ _ c.requires.empty refl

pub leave_book-ended-requires-clause-runs : goal.leave_book-ended-requires-clause-runs
leave_book-ended-requires-clause-runs g c = ends_run _ (usual_start c.args.outbox) c.args.sessions _ _ _ _ _ c.serve_port-ended.ensures.ends

pub back-requires : goal.back-requires
back-requires g c = given_out _ _ (g.F.Files.words c.args.files.now).lent_sinks _ c.in-Some-sink.is c.sink.ensures.lent_sinks

pub returns-clause-ends : goal.returns-clause-ends
returns-clause-ends g c = ends_later _ (usual_start c.args.outbox) c.args.sessions _ _ _ _ _ _ c.leave_book-ended.ensures.later c.serve_port-ended.ensures.ends
