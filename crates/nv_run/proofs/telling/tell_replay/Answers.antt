use Rattle.std.proofs.Common.{ap, sym}
use Rattle.nv_run.specs.Statuses.{line_of_replay}
use Rattle.nv_run.proofs.Lines.{tells_as}
use Rattle.nv_run.proofs.telling.tell_replay.Goals as goal

pub returns-in-Objects : goal.returns-in-Objects
returns-in-Objects g c = tells_as _ (line_of_replay c.args.ended) _ _ (sym (ap line_of_replay c.in-Objects.is)) c.tell_no.ensures
