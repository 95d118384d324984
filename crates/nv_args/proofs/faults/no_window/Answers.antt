use Rattle.std.proofs.Common.{◌≡◌, ◌++◌, ℕ, List, codes, string_bytes, rules, subst}
use Rattle.std.specs.Fmt.{signed_decimal}
use Rattle.nv_args.specs.Refusals.{Refuses}
use Rattle.nv_args.proofs.faults.no_window.Goals as goal

pub returns-in-Ok : goal.returns-in-Ok
returns-in-Ok c =
    let same : string_bytes c.in-Ok.words ≡ codes "Invalid window id: " ++ signed_decimal c.args.handle = search rules in
    subst (λ (ws : List ℕ). Refuses c.fault.result (record { kind = 1; code = 5; words = ws })) same c.fault.ensures
