use Rattle.std.proofs.Common.{rules, vec_len, ◌≡◌, ◌+◌, [], ℕ, length, List, ◌∷◌, ap, sym, subst, ◌∙◌, arith}
use Rattle.std.specs.Vec.Iter.{into_iter_items}
use Rattle.nv_io.specs.Known.{append_items}
use Rattle.nv_serve.specs.Jobs.{lanes_of}
use Rattle.nv_run.specs.inside.Lanes.{AreOut}
use Rattle.nv_run.proofs.LanesBack.{back_all, back_still, lent_none, lent_still, none_left, out_still}
use Rattle.nv_run.proofs.lanes.give_back.Goals as goal

pub loop-job-init : goal.loop-job-init
loop-job-init g c =
    let same : into_iter_items c.into_iter-job-iterator.result ≡ c.args.jobs.items = search rules in
    let few : length (into_iter_items c.into_iter-job-iterator.result) ≡ length c.args.jobs.items = ap length same in
    let count : length c.args.jobs.items ≡ vec_len c.args.jobs = search rules in
    record {
      left = search rules;
      out = subst (λ (n : ℕ). AreOut (g.P.Port.words c.args.port.now).lent n) (sym (few ∙ count)) c.requires.out;
      back = ap (λ l. append_items (g.P.Port.words c.args.port.now).returned (lanes_of l)) same;
      done = 0;
      all = omega (arith, few);
      lent = lent_none (g.P.Port.words c.args.port.now).lent;
      later = omega arith;
    }

pub loop-job-preserved : goal.loop-job-preserved
loop-job-preserved g c =
    let i = c.loop-job.invariant in
    let step : into_iter_items c.loop-job.job-iterator ≡ c.in-Some.job ∷ into_iter_items c.next.new.self = search rules in
    let one : length (into_iter_items c.loop-job.job-iterator) ≡ length (into_iter_items c.next.new.self) + 1 = ap length step ∙ omega arith in
    let lanes : lanes_of (into_iter_items c.loop-job.job-iterator) ≡ c.in-Some.job.lane ∷ lanes_of (into_iter_items c.next.new.self) = ap lanes_of step in
    record {
      left = search rules;
      out = out_still (g.P.Port.words c.loop-job.port).lent (g.P.Port.words c.back.new.self).lent _ _ one c.back.ensures.lent i.out;
      back = back_still (g.P.Port.words c.loop-job.port).returned (g.P.Port.words c.back.new.self).returned (g.P.Port.words c.args.port.now).returned c.in-Some.job.lane _ _ _ lanes c.back.ensures.returned i.back;
      done = i.done + 1;
      all = omega (arith, one, i.all);
      lent = lent_still (g.P.Port.words c.args.port.now).lent (g.P.Port.words c.loop-job.port).lent (g.P.Port.words c.back.new.self).lent i.done i.lent c.back.ensures.lent;
      later = search rules;
    }

pub loop-job-preserved-in-Some : goal.loop-job-preserved-in-Some
loop-job-preserved-in-Some g c =
    let i = c.loop-job.invariant in
    let step : into_iter_items c.loop-job.job-iterator ≡ c.in-Some.job ∷ into_iter_items c.next.new.self = search rules in
    let one : length (into_iter_items c.loop-job.job-iterator) ≡ length (into_iter_items c.next.new.self) + 1 = ap length step ∙ omega arith in
    let lanes : lanes_of (into_iter_items c.loop-job.job-iterator) ≡ c.in-Some.job.lane ∷ lanes_of (into_iter_items c.next.new.self) = ap lanes_of step in
    record {
      left = search rules;
      out = out_still (g.P.Port.words c.loop-job.port).lent (g.P.Port.words c.back.new.self).lent _ _ one c.back.ensures.lent i.out;
      back = back_still (g.P.Port.words c.loop-job.port).returned (g.P.Port.words c.back.new.self).returned (g.P.Port.words c.args.port.now).returned c.in-Some.job.lane _ _ _ lanes c.back.ensures.returned i.back;
      done = i.done + 1;
      all = omega (arith, one, i.all);
      lent = lent_still (g.P.Port.words c.args.port.now).lent (g.P.Port.words c.loop-job.port).lent (g.P.Port.words c.back.new.self).lent i.done i.lent c.back.ensures.lent;
      later = search rules;
    }

pub returns-clause-returned : goal.returns-clause-returned
returns-clause-returned g c =
    let i = c.loop-job.invariant in
    let none : into_iter_items c.loop-job.job-iterator ≡ [] = none_left _ (sym i.left ∙ c.in-None.ensures.steps.0) in
    sym (back_all (g.P.Port.words c.loop-job.port).returned _ (ap lanes_of none)) ∙ i.back
