use Rattle.std.proofs.Common.{arith}
use Rattle.nv_api_buf.proofs.Digits.{read-small}
use Rattle.nv_api_buf.proofs.commands.number_of.Goals as goal

pub overflow_mul-number : goal.overflow_mul-number
overflow_mul-number c = omega (arith, read-small c.args.digits.now c.loop-byte.byte-index c.loop-byte.number c.loop-byte.invariant (omega arith))

pub overflow_add-number : goal.overflow_add-number
overflow_add-number c =
    omega (arith, read-small c.args.digits.now c.loop-byte.byte-index c.loop-byte.number c.loop-byte.invariant (omega arith))
