use Rattle.std.proofs.Common.{◌≡◌, length, vec_len, rules, refl, ap, ◌∙◌, arith}
use Rattle.nv_io.specs.Faults.{Rose}
use Rattle.nv_io.specs.Known.{append_items}
use Rattle.nv_serve.specs.Jobs.{lanes_of}
use Rattle.nv_run.specs.Commands.{usual_start}
use Rattle.nv_run.proofs.Servers.{back_whole, lanes_served, lent_whole, none_began, port_failed, rose_later}
use Rattle.nv_run.proofs.serving.serve_port.Goals as goal

pub returns-in_default-clause-ends : goal.returns-in_default-clause-ends
returns-in_default-clause-ends g c = none_began _ (usual_start c.args.outbox) c.args.sessions c.args.kept.now.entries _ _ _ c.requires.empty refl

pub returns-then-not-open-clause-ends : goal.returns-then-not-open-clause-ends
returns-then-not-open-clause-ends g c =
    let rose : Rose (g.P.Port.words c.args.port.now).faults (g.P.Port.words c.open.new.port).faults = search rules in
    port_failed _ (usual_start c.args.outbox) c.args.sessions c.args.kept.now.entries _ (lanes_of c.open.new.jobs.items) _ _ c.requires.empty
    (rose_later _ _ _ rose c.give_back.ensures.later) c.open.ensures.fresh
    (c.give_back.ensures.returned ∙ ap (λ known. append_items known (lanes_of c.open.new.jobs.items)) c.open.ensures.returned)

pub returns-clause-ends : goal.returns-clause-ends
returns-clause-ends g c =
    let jobs = c.serve_lanes-ended.new.jobs in
    let value : c.as_mut_slice.result.now ≡ c.open.new.jobs.items = search rules in
    let many : length c.as_mut_slice.result.now ≡ c.args.sessions = search rules in
    let same : length jobs ≡ vec_len c.open.new.jobs = search rules in
    lanes_served _ (usual_start c.args.outbox) (length c.as_mut_slice.result.now) c.args.sessions _ c.serve_lanes-ended.result _ (lanes_of c.as_mut_slice.result.now)
    (lanes_of c.open.new.jobs.items) (lanes_of jobs) _ _ many (ap lanes_of value) c.open.ensures.fresh
    (back_whole _ _ _ _ jobs c.give_back-2.ensures.returned c.open.ensures.returned (lent_whole c.open.new.jobs.items jobs (vec_len c.open.new.jobs) same))
    c.serve_lanes-ended.ensures.left
