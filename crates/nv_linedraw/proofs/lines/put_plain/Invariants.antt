use Rattle.std.proofs.Common.{◌≡◌, ◌++◌, drop, map}
use Rattle.nv_linedraw.specs.inside.Plain.{byte_cell}
use Rattle.nv_linedraw.proofs.lines.put_plain.Given as goal

abbrev pub invariant-loop-byte : goal.invariant-loop-byte
invariant-loop-byte l = l.cells.items ++ map byte_cell (drop l.byte-index l.fn.bytes) ≡ l.initial.cells.items ++ map byte_cell l.fn.bytes
