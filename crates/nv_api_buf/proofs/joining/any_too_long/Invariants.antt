use Rattle.std.proofs.Common.{◌≡◌, false, take}
use Rattle.std.specs.List.{list_any}
use Rattle.nv_buffer.specs.Splices.{with_front, with_back}
use Rattle.nv_api_buf.specs.inside.Parts.{is_longer}
use Rattle.nv_api_buf.proofs.joining.any_too_long.Given as goal

abbrev pub invariant-loop-place : goal.invariant-loop-place
invariant-loop-place l = list_any (is_longer l.most) (take l.place (with_back (with_front l.front l.lines) l.back)) ≡ false
