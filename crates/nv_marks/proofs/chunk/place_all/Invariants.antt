use Rattle.std.proofs.Common.{◌≡◌, ◌+◌, ◌++◌, map, take}
use Rattle.std.specs.Prelude.{vec_len, vec_capacity}
use Rattle.nv_marks.specs.inside.Chunks.{placed_record}
use Rattle.nv_marks.proofs.chunk.place_all.Given as goal

abbrev pub invariant-loop-one : goal.invariant-loop-one
invariant-loop-one l =
    (l.into.items ≡ l.fn.into.items ++ map (placed_record l.base) (take l.one-index l.kept))
    × (vec_len l.into ≡ vec_len l.fn.into + l.one-index)
    × (vec_capacity l.into ≡ vec_capacity l.fn.into)
