use Rattle.std.proofs.Common.{◌≡◌, ◌≤◌, take}
use Rattle.std.specs.List.{flat_map}
use Rattle.std.specs.Io.KnownBytes.{append_known}
use Rattle.nv_run.proofs.telling.tell.Given as goal

abbrev pub invariant-loop-part : goal.invariant-loop-part
invariant-loop-part g l = record {
  told : (g.E.Sink.words l.errors).taken ≡ append_known (g.E.Sink.words l.initial.errors).taken (flat_map (λ part. part.now) (take l.part-index l.parts));
  later : (g.E.Sink.words l.initial.errors).faults ≤ (g.E.Sink.words l.errors).faults;
}
