-- A fresh editor has no open change.
use Rattle.std.proofs.Common.{rules, arith}
use Rattle.std.proofs.lemmas.Grind.{common_steps}
use Rattle.nv_model.specs.Keeping.{fresh_kept}
use Rattle.nv_model.specs.declared.parts.Limits.{Limits}
use Rattle.nv_editor.specs.Sound.{AllSealed}

pub fresh_sealed : (limits : Limits) → AllSealed (fresh_kept limits)
fresh_sealed limits = search rules
