-- Whether one of those that are left does, since none did so far.
use Rattle.std.proofs.Common.{◌≡◌}
use Rattle.std.specs.List.{list_any}
use Rattle.nv_editor.specs.inside.Named.{is_other_named}
use Rattle.nv_editor.proofs.buffers.any_other.Given as goal

abbrev pub invariant-loop-handle : goal.invariant-loop-handle
invariant-loop-handle l =
    list_any (is_other_named l.one.n l.name) l.handle-iterator
    ≡ list_any (is_other_named l.one.n l.name) l.buffers.entries
