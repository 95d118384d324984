use Rattle.std.proofs.Common.{ap, subst, Option}
use Rattle.nv_core.specs.Contents.{plain_entries}
use Rattle.nv_halves.specs.Passes.{plain_pass}
use Rattle.nv_serve.specs.Links.{LanesWords}
use Rattle.nv_serve.specs.inside.Lanes.{StepsLane}
use Rattle.nv_serve.specs.declared.job.LaneEnd.{LaneEnd}
use Rattle.nv_serve.proofs.Chaining.{same_self, lane_begun, lane_goes, lane_ends}
use Rattle.nv_serve.proofs.lane.serve_lane.Goals as goal

pub links-init : goal.links-init
links-init g c =
    let t : LanesWords _ _ _ = record { input = g.L.In.Source.words; output = g.L.Out.Sink.words; lane = g.L.Lane.words } in record {
      first = same_self c.args.passes.0;
      second = same_self c.args.passes.1;
      serves = lane_begun t c.args.passes.0.start c.args.passes.0.number c.args.passes.1.number c.args.lane.now (plain_pass c.args.passes.0).seen (plain_pass c.args.passes.1).seen
          (ap plain_entries c.requires.passes.first_seen) (ap plain_entries c.requires.passes.second_seen);
    }

pub links-preserved : goal.links-preserved
links-preserved g c =
    let t : LanesWords _ _ _ = record { input = g.L.In.Source.words; output = g.L.Out.Sink.words; lane = g.L.Lane.words } in
    let i = c.links.invariant in
    let n = c.serve_next-next in
    let step = subst (λ (s : Option LaneEnd). StepsLane t c.links.passes.0.start s (plain_pass c.links.passes.0) (plain_pass c.links.passes.1) (plain_pass n.result.0.0) (plain_pass n.result.0.1) c.links.lane n.new.lane)
    c.in-None-end.is n.ensures in
    let r = lane_goes t c.args.passes.0 c.args.passes.1 c.links.passes.0 c.links.passes.1 n.result.0.0 n.result.0.1 c.args.lane.now c.links.lane n.new.lane (record { first = i.first; second = i.second; serves = i.serves }) step in
    record { first = r.first; second = r.second; serves = r.serves }

pub returns-in-Some-end-clause-serves : goal.returns-in-Some-end-clause-serves
returns-in-Some-end-clause-serves g c =
    let t : LanesWords _ _ _ = record { input = g.L.In.Source.words; output = g.L.Out.Sink.words; lane = g.L.Lane.words } in
    let i = c.links.invariant in
    let n = c.serve_next-next in
    let step = subst (λ (s : Option LaneEnd). StepsLane t c.links.passes.0.start s (plain_pass c.links.passes.0) (plain_pass c.links.passes.1) (plain_pass n.result.0.0) (plain_pass n.result.0.1) c.links.lane n.new.lane)
    c.in-Some-end.is n.ensures in
    lane_ends t c.in-Some-end.end c.args.passes.0 c.args.passes.1 c.links.passes.0 c.links.passes.1 n.result.0.0 n.result.0.1 c.args.lane.now c.links.lane n.new.lane (record { first = i.first; second = i.second; serves = i.serves }) step
