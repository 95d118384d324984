-- Of all lines a front went out, some wait, and the others are to come.
use Rattle.std.proofs.Common.{◌≤◌, ◌++◌, drop}
use Rattle.nv_places.specs.Flat.{flat}
use Rattle.nv_mirror.proofs.Outs.{IsGoing}
use Rattle.nv_mirror.proofs.page.Page.put_lines.Given as goal

abbrev pub invariant-loop-line : goal.invariant-loop-line
invariant-loop-line g l = record {
  going : IsGoing (l.initial.self ++ flat l.lines) (flat (drop l.line-index l.lines)) (g.O.Sink.words l.initial.output).taken (g.O.Sink.words l.output).taken l.self;
  later : (g.O.Sink.words l.initial.output).faults ≤ (g.O.Sink.words l.output).faults;
}
