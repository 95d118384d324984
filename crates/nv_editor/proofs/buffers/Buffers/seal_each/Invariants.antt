use Rattle.std.proofs.Common.{take}
use Rattle.nv_editor.specs.inside.Sealing.{HasSameEntries, after_seals}
use Rattle.nv_editor.specs.inside.Table.{AreKeptBuffers}
use Rattle.nv_editor.proofs.buffers.Buffers.seal_each.Given as goal

abbrev pub invariant-loop-handle : goal.invariant-loop-handle
invariant-loop-handle l = record {
  same : HasSameEntries l.self (after_seals l.fn.self (take l.handle-index l.handles));
  kept : AreKeptBuffers l.handles l.self;
}
