use Rattle.std.proofs.Common.{◌≡◌, map, take}
use Rattle.nv_api_mark.specs.inside.Picking.{listed_triple}
use Rattle.nv_api_mark.proofs.listing.plain_marks.Given as goal

abbrev pub invariant-loop-mark : goal.invariant-loop-mark
invariant-loop-mark l = l.triples.items ≡ map listed_triple (take l.mark-index l.marks)
