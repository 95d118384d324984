use Rattle.std.proofs.Common.{◌≡◌, false, take}
use Rattle.std.specs.List.{list_any}
use Rattle.nv_api_buf.specs.inside.Parts.{is_longer}
use Rattle.nv_api_buf.proofs.replacement.any_too_long.Given as goal

abbrev pub invariant-loop-place : goal.invariant-loop-place
invariant-loop-place l = list_any (is_longer l.most) (take l.place l.lines) ≡ false
