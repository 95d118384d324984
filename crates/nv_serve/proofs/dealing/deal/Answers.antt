use Rattle.std.proofs.Common.{◌≡◌, ◌*◌, ◌+◌, ◌-◌, arith, sym, ◌∙◌, ap, Some}
use Rattle.nv_turn.specs.Passes.{first_pass, first_passes}
use Rattle.nv_serve.specs.declared.job.Job.{Job}
use Rattle.nv_serve.specs.inside.Sharing.{first_number, second_number}
use Rattle.nv_serve.proofs.Placing.{set_length, dealt_next, same_before}
use Rattle.nv_serve.proofs.dealing.deal.Goals as goal

pub lanes-preserved : goal.lanes-preserved
lanes-preserved g c =
    let i = c.lanes.invariant in
    let turn = c.args.turn.now.turn in
    let rest = c.lanes.rest in
    let some = c.lanes-test.true in
    let one = c.take_pass-first in
    let two = c.take_pass-second in
    let m = one.ensures.count in
    let n = two.ensures.count in
    let count = i.count in
    let within = i.within in
    let len = i.same_length in
    let now = c.index-jobs-rest.result in
    let made = c.give.ensures ∙ ap (λ (j : Job _ _). record j { passes = Some (one.result, two.result) }) (sym c.index-jobs-rest.is) in
    let here : rest - 1 + 1 ≡ rest = omega (arith, some) in
    let fewer : 2 * rest - 1 - 1 ≡ 2 * (rest - 1) = omega (arith, some) in
    let first_is : 2 * rest - 1 ≡ first_number (rest - 1) = omega (arith, some) in
    let second_is : 2 * rest ≡ second_number (rest - 1) = omega (arith, some) in record {
      count = omega (arith, m, n, count, some);
      same_length = set_length c.lanes.jobs (rest - 1) c.give.new.job ∙ i.same_length;
      within = omega (arith, within);
      left = λ start is. one.ensures.others turn start (2 * rest - 1) (two.ensures.others turn start (2 * rest) (i.left start is)) ∙ ap (first_passes turn start) fewer;
      dealt = λ start is.
          dealt_next turn start c.args.jobs.now c.lanes.jobs (rest - 1) now c.give.new.job one.result two.result (omega (arith, some, within)) len c.index-jobs-rest.is (λ k d lt. i.same k d (omega (arith, lt, here)))
          (λ k d le lt. i.dealt start is k d (omega (arith, le, here)) lt) made
          (one.ensures.pass turn start (2 * rest - 1) (two.ensures.others turn start (2 * rest) (i.left start is)) ∙ ap (first_pass turn start) first_is)
          (two.ensures.pass turn start (2 * rest) (i.left start is) ∙ ap (first_pass turn start) second_is);
      same = same_before c.args.jobs.now c.lanes.jobs (rest - 1) c.give.new.job (λ k d lt. i.same k d (omega (arith, lt, here)));
    }

pub returns-clause-deals : goal.returns-clause-deals
returns-clause-deals g c start is i d lt = let none = c.lanes-test.false in c.lanes.invariant.dealt start is i d (omega (arith, none)) lt
