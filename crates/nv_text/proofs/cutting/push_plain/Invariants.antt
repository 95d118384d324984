use Rattle.std.proofs.Common.{◌≡◌, ◌-◌, ◌++◌, length}
use Rattle.nv_text.proofs.PlainLemmas.{plain_pieces}
use Rattle.nv_text.proofs.cutting.push_plain.Given as goal

abbrev pub invariant-loop-at : goal.invariant-loop-at
invariant-loop-at l = l.pieces.items ++ plain_pieces l.at (l.at-end - l.at) ≡ l.initial.pieces.items ++ plain_pieces l.from (length l.text)
