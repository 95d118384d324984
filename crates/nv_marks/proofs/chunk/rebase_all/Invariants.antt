use Rattle.std.proofs.Common.{◌≡◌, ◌++◌, map, take, drop}
use Rattle.nv_marks.specs.inside.Chunks.{rebased_from}
use Rattle.nv_marks.proofs.chunk.rebase_all.Given as goal

abbrev pub invariant-loop-one : goal.invariant-loop-one
invariant-loop-one l =
    l.kept ≡ map (rebased_from l.base) (take l.one-index l.fn.kept) ++ drop l.one-index l.fn.kept
