use Rattle.std.proofs.Common.{◌≡◌, ◌+◌, ◌++◌, map, take}
use Rattle.std.specs.Prelude.{vec_len, vec_capacity}
use Rattle.nv_marks.specs.inside.Chunks.{kept_from}
use Rattle.nv_marks.proofs.chunk.keep_all.Given as goal

abbrev pub invariant-loop-record : goal.invariant-loop-record
invariant-loop-record l =
    (l.into.items ≡ l.fn.into.items ++ map (kept_from l.base) (take l.record-index l.records))
    × (vec_len l.into ≡ vec_len l.fn.into + l.record-index)
    × (vec_capacity l.into ≡ vec_capacity l.fn.into)
