use Rattle.std.proofs.Common.{◌≡◌, ◌≤◌, ◌-◌, length, take}
use Rattle.std.specs.Io.KnownBytes.{append_known}
use Rattle.nv_io.proofs.streams.put_all.Given as goal

abbrev pub invariant-loop-done : goal.invariant-loop-done
invariant-loop-done g l = record {
  within : l.done ≤ length l.bytes;
  taken : (g.S.Sink.words l.sink).taken ≡ append_known (g.S.Sink.words l.initial.sink).taken (take l.done l.bytes);
  later : (g.S.Sink.words l.initial.sink).faults ≤ (g.S.Sink.words l.sink).faults;
}

abbrev pub decreases-loop-done : goal.decreases-loop-done
decreases-loop-done g l = length l.bytes - l.done
