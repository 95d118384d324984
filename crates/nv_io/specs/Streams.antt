-- What a call did to a source or to a sink, by their words before and after the call.
use Rattle.std.specs.Prelude.{◌≡◌, ℕ, ◌⊎◌, List, ◌++◌, take, ⊤}
use Rattle.std.specs.List.{concat}
use Rattle.std.specs.declared.option.Option.{Option}
use Rattle.std.specs.declared.option.Option.TheVariants.{Some, None}
use Rattle.std.specs.Io.KnownBytes.{append_known, prepend_known}
use Rattle.nv_io.specs.Faults.{Rose}
use Rattle.nv_io.specs.Words.{SinkWords, SourceWords}

-- A source gave just these bytes: they came to what was taken, and were the first of what was left.
pub record Gave (taken_before taken_after left_before left_after : Option (List ℕ))
    (given : List ℕ) : Type 0 where
  pub taken : taken_after ≡ append_known taken_before given
  pub left : left_before ≡ prepend_known given left_after

-- what the reads of a source gave grew by these, one item a read, unless it isn't told any more
abbrev pub AddsReads : Option (List (List ℕ)) → Option (List (List ℕ)) → List (List ℕ) → Type 0
AddsReads before None pieces = ⊤
AddsReads before (Some now) pieces =
    (was : List (List ℕ)) × (before ≡ Some was) × (now ≡ was ++ pieces)

-- A source gave just these pieces, one a read: nothing in a read that found the end or failed.
pub record GaveEach (before after : SourceWords) (pieces : List (List ℕ)) : Type 0 where
  pub gave : Gave before.taken after.taken before.left after.left (concat pieces)
  pub each : AddsReads before.reads after.reads pieces

-- a line went out, or a part of it from its front and a fault rose
abbrev pub Tells : List ℕ → SinkWords → SinkWords → Type 0
Tells line before after =
    (n : ℕ) × (after.taken ≡ append_known before.taken (take n line))
    × ((after.taken ≡ append_known before.taken line) ⊎ Rose before.faults after.faults)
