use Rattle.std.proofs.Common.{◌≡◌, ◌+◌, map, drop, option_map}
use Rattle.nv_value.specs.View.{content}
use Rattle.nv_args.specs.Methods.{kind_of_parameter}
use Rattle.nv_args.specs.inside.Held.{first_wrong}
use Rattle.nv_args.proofs.args.first_wrong.Given as goal

abbrev pub invariant-loop-place : goal.invariant-loop-place
invariant-loop-place l =
    first_wrong (map kind_of_parameter l.parameters) (map content l.values)
    ≡ option_map (λ n. l.place + n) (first_wrong (drop l.place (map kind_of_parameter l.parameters)) (drop l.place (map content l.values)))
