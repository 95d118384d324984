use Rattle.std.proofs.Common.{◌≡◌, map, take}
use Rattle.nv_value.specs.View.{content}
use Rattle.nv_args.specs.Methods.{parameter_of}
use Rattle.nv_api_buf.specs.Metadata.{parameter}
use Rattle.nv_api_buf.proofs.metadata.parameters_taken.Given as goal

abbrev pub invariant-loop-taken : goal.invariant-loop-taken
invariant-loop-taken l = map content l.items.items ≡ map (λ p. parameter (parameter_of p)) (take l.taken-index l.list)
