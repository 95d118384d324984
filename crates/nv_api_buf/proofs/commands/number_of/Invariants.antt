use Rattle.nv_api_buf.proofs.Digits.{ReadTo}
use Rattle.nv_api_buf.proofs.commands.number_of.Given as goal

abbrev pub invariant-loop-byte : goal.invariant-loop-byte
invariant-loop-byte l = ReadTo l.digits l.byte-index l.number
