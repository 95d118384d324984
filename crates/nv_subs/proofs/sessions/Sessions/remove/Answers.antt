use Rattle.std.proofs.Common.{rules}
use Rattle.nv_subs.proofs.Ranks.{rising-removed}
use Rattle.nv_subs.proofs.sessions.Sessions.remove.Goals as goal

pub invariant_of-self : goal.invariant_of-self
invariant_of-self c =
    rising-removed c.self.inside.numbers.items c.remove.new.self.items c.args.session c.in-Ok.place c.self.invariant (search rules)
    c.remove.ensures.items
