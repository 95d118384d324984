use Rattle.std.proofs.Common.{◌≡◌, ℕ, true, take, length}
use Rattle.std.specs.Prelude.{IfSome}
use Rattle.nv_marks.specs.Marks.{mark_at}
use Rattle.nv_marks.specs.inside.Bands.{HasBand, is_banded}
use Rattle.nv_marks.specs.inside.Chunks.{spread_records}
use Rattle.nv_marks.specs.inside.Records.{ForEach, marks_among}
use Rattle.nv_marks.proofs.bands.cover_kept.Given as goal

abbrev pub invariant-loop-one : goal.invariant-loop-one
invariant-loop-one l =
    (length l.bands ≡ length l.fn.bands)
    × ((s e : ℕ) → is_banded l.fn.bands s e ≡ true → is_banded l.bands s e ≡ true)
    × ForEach (λ k. IfSome (mark_at (marks_among (spread_records l.store.chunks.items)) k.ns k.id) (HasBand l.bands)) (take l.one-index l.kept)
