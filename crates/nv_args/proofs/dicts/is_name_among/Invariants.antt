use Rattle.std.proofs.Common.{◌≡◌, ℕ, List, Bor, map, drop, bytes_eq}
use Rattle.std.specs.List.{list_any}
use Rattle.nv_args.proofs.dicts.is_name_among.Given as goal

abbrev pub invariant-loop-other : goal.invariant-loop-other
invariant-loop-other l =
    list_any (bytes_eq l.name) (map (λ (n : Bor (List ℕ)). n.now) (drop l.other-index l.names))
    ≡ list_any (bytes_eq l.name) (map (λ (n : Bor (List ℕ)). n.now) l.names)
