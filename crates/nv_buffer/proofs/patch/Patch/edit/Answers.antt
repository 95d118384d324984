use Rattle.std.proofs.Common.{arith}
use Rattle.nv_buffer.proofs.Patching.{taken_narrow}
use Rattle.nv_buffer.proofs.patch.Patch.edit.Goals as goal

pub overflow_cast-old : goal.overflow_cast-old
overflow_cast-old c =
    let narrow = taken_narrow c.args.text.now c.args.self.now c.requires.text c.requires.patch in
    omega (arith, narrow)
