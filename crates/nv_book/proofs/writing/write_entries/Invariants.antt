use Rattle.std.proofs.Common.{◌≡◌, ◌≤◌, take}
use Rattle.nv_core.specs.Contents.{plain_entries}
use Rattle.nv_book.specs.inside.Steps.{HasWritten}
use Rattle.nv_book.proofs.writing.write_entries.Given as goal

abbrev pub invariant-loop-entry : goal.invariant-loop-entry
invariant-loop-entry g l = record {
  number : l.at ≡ l.entry-index;
  written : HasWritten l.fn.start l.form (plain_entries (take l.entry-index l.entries)) l.player.world l.player.painters.items
      (g.S.Sink.words l.initial.sink).taken (g.S.Sink.words l.sink).taken;
  later : (g.S.Sink.words l.initial.sink).faults ≤ (g.S.Sink.words l.sink).faults;
}
