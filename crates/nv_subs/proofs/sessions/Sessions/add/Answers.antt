use Rattle.std.proofs.Common.{rules}
use Rattle.nv_subs.proofs.Ranks.{rising-put}
use Rattle.nv_subs.proofs.sessions.Sessions.add.Goals as goal

pub invariant_of-self-in-Err : goal.invariant_of-self-in-Err
invariant_of-self-in-Err c =
    rising-put _ c.self.inside.numbers.items c.insert.new.self.items c.args.session c.in-Err.place c.self.invariant (search rules)
    c.insert.ensures.items
