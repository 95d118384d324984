use Rattle.std.proofs.Common.{◌≡◌, take}
use Rattle.nv_lines.specs.Excerpts.{list_lines}
use Rattle.nv_lines.proofs.excerpt.Excerpt.share.Given as goal

abbrev pub invariant-loop-list : goal.invariant-loop-list
invariant-loop-list l = l.excerpt ≡ list_lines (take l.list-index l.list-items)
