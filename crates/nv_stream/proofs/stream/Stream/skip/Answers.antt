use Rattle.std.proofs.Common.{◌≤◌, subst}
use Rattle.nv_stream.specs.State.{State}
use Rattle.nv_stream.proofs.Skipped.{within_held, takes_value}
use Rattle.nv_stream.proofs.stream.Stream.skip.Goals as goal

pub give-requires : goal.give-requires
give-requires c =
    let some : 1 ≤ c.args.self.now.most = subst (λ (s : State). 1 ≤ s.most) c.self.view_is c.self.invariant.0 in
    within_held c.args.self.now c.requires.whole.0 c.args.taken some c.requires.whole.1

pub returns : goal.returns
returns c =
    let some : 1 ≤ c.args.self.now.most = subst (λ (s : State). 1 ≤ s.most) c.self.view_is c.self.invariant.0 in
    λ t e s. takes_value c.args.self.now c.give.new.self t c.args.taken some c.requires.no_flaw c.give.ensures e s
