-- What has been put so far, and what is left, is all of it.
use Rattle.std.proofs.Common.{◌≡◌, ◌++◌, drop}
use Rattle.nv_value.specs.Content.{text}
use Rattle.nv_rpc.proofs.Puts.{all_spelled}
use Rattle.nv_rpc.proofs.outcome.put_strings.Given as goal

abbrev pub invariant-loop-line : goal.invariant-loop-line
invariant-loop-line l = l.into.items ++ all_spelled text (drop l.line-index l.lines) ≡ l.initial.into.items ++ all_spelled text l.lines
