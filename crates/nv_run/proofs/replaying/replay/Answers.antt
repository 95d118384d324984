use Rattle.nv_run.proofs.Books.{given_out}
use Rattle.nv_run.proofs.replaying.replay.Goals as goal

pub back_source-requires : goal.back_source-requires
back_source-requires g c = given_out _ _ (g.F.Files.words c.args.files.now).lent_sources _ c.in-Some.is c.source.ensures.lent_sources
