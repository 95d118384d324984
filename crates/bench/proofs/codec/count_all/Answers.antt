-- A whole value ends within the bytes.
use Rattle.std.proofs.Common.{◌-◌, length, take, drop, arith, subst, length-drop}
use Rattle.std.proofs.lemmas.List.{length-take}
use Rattle.nv_msgpack.specs.Decoded.{IsRight}
use Rattle.bench.proofs.codec.count_all.Goals as goal

pub loop-count-preserved : goal.loop-count-preserved
loop-count-preserved c =
    let bytes = c.args.bytes.now in
    let rest = take (length bytes - c.loop-count.at) (drop c.loop-count.at bytes) in
    let right = subst (λ answer. IsRight 64 67108864 rest answer) c.in-Whole.is c.in_ok-_value.ensures.right in
    omega (arith, right.0, length-take (length bytes - c.loop-count.at) (drop c.loop-count.at bytes), length-drop c.loop-count.at bytes)
