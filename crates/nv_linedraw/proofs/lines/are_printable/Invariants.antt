use Rattle.std.proofs.Common.{◌≡◌, take}
use Rattle.std.specs.Int.{is_in_range}
use Rattle.std.specs.List.{list_all}
use Rattle.nv_linedraw.proofs.lines.are_printable.Given as goal

abbrev pub invariant-loop-byte : goal.invariant-loop-byte
invariant-loop-byte l = l.plain ≡ list_all (is_in_range 0x20 0x7E) (take l.byte-index l.fn.bytes)
