use Rattle.std.proofs.Common.{sym, subst}
use Rattle.nv_subs.specs.Attachments.{AreRising}
use Rattle.nv_subs.proofs.Ranks.{rising-one}
use Rattle.nv_subs.proofs.sessions.Sessions.of_one.Goals as goal

pub invariant_of-result : goal.invariant_of-result
invariant_of-result c = subst AreRising (sym c.in_ok-numbers.ensures.items) (rising-one c.args.session)
