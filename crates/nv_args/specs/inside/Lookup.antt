-- inside: the methods among which a name of some length is looked for.
use Rattle.std.specs.Prelude.{ℕ, ◌==◌, List, length}
use Rattle.std.specs.List.{filter}
use Rattle.nv_args.specs.Table.{Signature}

-- those whose names have this length
unfoldable pub of_length : ℕ → List Signature → List Signature
of_length count signatures = filter (λ signature. length signature.name == count) signatures
