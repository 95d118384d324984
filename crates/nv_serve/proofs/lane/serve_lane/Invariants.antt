use Rattle.nv_turn.specs.Passes.{IsSamePass}
use Rattle.nv_halves.specs.Passes.{plain_pass}
use Rattle.nv_serve.specs.inside.Lanes.{ServesLane}
use Rattle.nv_serve.proofs.lane.serve_lane.Given as goal

abbrev pub invariant-links : goal.invariant-links
invariant-links g l = record {
  first : IsSamePass l.fn.passes.0 l.passes.0;
  second : IsSamePass l.fn.passes.1 l.passes.1;
  serves : ServesLane (record { input = g.L.In.Source.words; output = g.L.Out.Sink.words; lane = g.L.Lane.words }) l.fn.passes.0.start l.fn.passes.0.number l.fn.passes.1.number l.initial.lane l.lane (plain_pass l.passes.0).seen (plain_pass l.passes.1).seen;
}
