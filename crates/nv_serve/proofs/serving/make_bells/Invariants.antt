use Rattle.std.proofs.Common.{◌≡◌, vec_len, vec_capacity}
use Rattle.nv_serve.proofs.serving.make_bells.Given as goal

abbrev pub invariant-loop-made : goal.invariant-loop-made
invariant-loop-made l = record {
  count : vec_len l.bells ≡ l.made;
  room : vec_capacity l.bells ≡ l.count;
}
