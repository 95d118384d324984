use Rattle.std.proofs.Common.{arith, sym, ◌∙◌, subst}
use Rattle.nv_serve.specs.declared.job.Job.{Job}
use Rattle.nv_serve.specs.inside.Jobs.{StartsAsLane, IsJoined}
use Rattle.nv_serve.proofs.Placing.{set_length, set_beside, joined_first, begins_first, joined_next, same_after}
use Rattle.nv_serve.proofs.dealing.join_all.Goals as goal

pub lanes-init : goal.lanes-init
lanes-init g c =
    let jobs = c.args.jobs.now in
    let now = c.index-jobs-0.result in
    let j = c.join_lane-all in
    let some = c.requires.some in
    let begins : StartsAsLane now j.result = subst (λ (k : Job _ _). StartsAsLane k j.result) (sym c.index-jobs-0.is) j.ensures.start in
    let joined : IsJoined g.C.Story.caller now j.new.job j.result = subst (λ (k : Job _ _). IsJoined g.C.Story.caller k j.new.job j.result) (sym c.index-jobs-0.is) j.ensures.joined in record {
      some = omega arith;
      within = omega (arith, some);
      same_length = set_length jobs 0 j.new.job;
      turn = j.ensures.turn;
      start = begins_first jobs now j.result some c.index-jobs-0.is begins;
      joined = joined_first g.C.Story.caller jobs now j.new.job j.result some c.index-jobs-0.is joined;
      same = λ i d le. set_beside jobs 0 i j.new.job d (λ e. omega (arith, e, le));
    }

pub lanes-preserved : goal.lanes-preserved
lanes-preserved g c =
    let i = c.lanes.invariant in
    let now = c.index-jobs-at.result in
    let j = c.join_lane-next in
    let k = c.join-all in
    let below = c.lanes-test.true in
    let len = i.same_length in
    let within = i.within in
    let joined : IsJoined g.C.Story.caller now j.new.job j.result = subst (λ (l : Job _ _). IsJoined g.C.Story.caller l j.new.job j.result) (sym c.index-jobs-at.is) j.ensures.joined in record {
      some = omega arith;
      within = omega (arith, below, len);
      same_length = set_length c.lanes.jobs c.lanes.at j.new.job ∙ i.same_length;
      turn = k.ensures.pass.0 ∙ i.turn;
      start = λ d passes is. k.ensures.pass.2 ∙ i.start d passes is;
      joined = joined_next g.C.Story.caller c.args.jobs.now c.lanes.jobs c.lanes.at now j.new.job c.lanes.all j.result k.result (omega (arith, below, len)) len c.index-jobs-at.is i.same i.joined joined k.ensures.one k.ensures.other k.ensures.numbers;
      same = same_after c.args.jobs.now c.lanes.jobs c.lanes.at j.new.job i.same;
    }

pub returns-clause-joined : goal.returns-clause-joined
returns-clause-joined g c =
    let past = c.lanes-test.false in
    let len = c.lanes.invariant.same_length in λ i d lt. c.lanes.invariant.joined i d (omega (arith, lt, past, len))
