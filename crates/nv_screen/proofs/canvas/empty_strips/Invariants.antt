use Rattle.std.proofs.Common.{◌≡◌, [], replicate}
use Rattle.nv_screen.proofs.canvas.empty_strips.Given as goal

abbrev pub invariant-loop : goal.invariant-loop
invariant-loop l = l.strips.items ≡ replicate l.counter []
