use Rattle.std.proofs.Common.{◌≡◌, map, bytes_eq, drop, find}
use Rattle.nv_args.specs.Rules.{key_of}
use Rattle.nv_api_ui.proofs.options.rule_named.Given as goal

abbrev pub invariant-loop-rule : goal.invariant-loop-rule
invariant-loop-rule l =
    find (λ key. bytes_eq key.name l.name) (map key_of (drop l.rule-index l.rules))
    ≡ find (λ key. bytes_eq key.name l.name) (map key_of l.rules)
