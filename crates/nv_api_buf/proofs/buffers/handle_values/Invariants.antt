-- The values so far, with those of the handles that are left, are all.
use Rattle.std.proofs.Common.{◌≡◌, ◌++◌, map}
use Rattle.nv_value.specs.View.{content, contents}
use Rattle.nv_msgpack.specs.Shortest.{HaveSpellings}
use Rattle.nv_rpc.specs.Messages.{buffer_handle}
use Rattle.nv_model.specs.Editors.{handles_of}
use Rattle.nv_api_buf.proofs.buffers.handle_values.Given as goal

abbrev pub invariant-loop-handle : goal.invariant-loop-handle
invariant-loop-handle l = record {
  same :
      map content l.items.items ++ map buffer_handle l.handle-iterator
      ≡ map buffer_handle (handles_of l.editor.buffers);
  spelled : HaveSpellings (contents l.items.items);
}
