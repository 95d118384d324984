use Rattle.std.proofs.Common.{◌≡◌}
use Rattle.nv_editor.proofs.UiLemmas.{IsBehind}
use Rattle.nv_editor.proofs.uis.put_among.Given as goal

abbrev pub invariant-loop-place : goal.invariant-loop-place
invariant-loop-place l = (l.uis.items ≡ l.fn.uis.items) × IsBehind l.ui l.uis.items l.place
