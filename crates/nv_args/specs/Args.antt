-- The arguments of a call as the code has them.
use Rattle.std.specs.Prelude.{List, map}
use Rattle.nv_value.specs.View.{content}
use Rattle.nv_args.specs.declared.args.Args.{Args}
use Rattle.nv_args.specs.Methods.{kind_of_parameter}
use Rattle.nv_args.specs.Reading.{Arg}
use Rattle.nv_args.specs.inside.Held.{args_held}

-- the typed arguments that values are, which were looked through
unfoldable pub typed_arguments : Args → List Arg
typed_arguments args =
    args_held (map kind_of_parameter args.parameters.now)
    (map content args.values.now)
