-- What `decode` answers, in the words of spellings.
use Rattle.std.specs.Prelude.{ℕ, ◌≤◌, ◌≡◌, List, ◌++◌, length, take}
use Rattle.nv_value.specs.Content.{Tree}
use Rattle.nv_value.specs.View.{content}
use Rattle.nv_msgpack.specs.declared.decoded.Decoded.{Decoded}
use Rattle.nv_msgpack.specs.declared.decoded.Decoded.TheVariants as answers
use Rattle.nv_msgpack.specs.Reading.{bad, too_deep, too_long, Reading, whole, more, flawed}
use Rattle.nv_msgpack.specs.Shortest.{HasSpelling}
use Rattle.nv_msgpack.specs.Within.{SpellsWithin, IsPartial, IsFlaw}

-- The reading that an answer stands for.
abbrev pub decoded_seen : Decoded → Reading Tree
decoded_seen (answers.Whole value n) = whole (content value) n
decoded_seen answers.NeedsMore = more
decoded_seen (answers.Bad n) = flawed bad n
decoded_seen (answers.TooDeep n) = flawed too_deep n
decoded_seen (answers.TooLong n) = flawed too_long n

-- A whole value is spelled by the bytes that it took; more is wanted of a front of a spelling; a
-- flaw is where the text stops beginning one.
abbrev pub IsRight : ℕ → ℕ → List ℕ → Decoded → Type 0
IsRight depth most bytes (answers.Whole value n) =
    (n ≤ length bytes) × SpellsWithin depth most (content value) (take n bytes)
IsRight depth most bytes answers.NeedsMore = IsPartial depth most bytes
IsRight depth most bytes (answers.Bad n) = IsFlaw depth most bytes bad n
IsRight depth most bytes (answers.TooDeep n) = IsFlaw depth most bytes too_deep n
IsRight depth most bytes (answers.TooLong n) = IsFlaw depth most bytes too_long n

-- Each spelling within the bounds at the front is read, whatever follows it.
abbrev pub ReadsEach : ℕ → ℕ → List ℕ → Decoded → Type 0
ReadsEach depth most bytes answer = (t : Tree) (front tail : List ℕ) → bytes ≡ front ++ tail
    → SpellsWithin depth most t front → decoded_seen answer ≡ whole t (length front)

-- More is wanted of each front of such a spelling with bytes missing.
abbrev pub AsksForMore : ℕ → ℕ → List ℕ → Decoded → Type 0
AsksForMore depth most bytes answer = IsPartial depth most bytes → answer ≡ answers.NeedsMore

-- A whole value can be spelled, and so encoded again.
abbrev pub HasSpellingIfWhole : Decoded → Type 0
HasSpellingIfWhole (answers.Whole value n) = HasSpelling (content value)
HasSpellingIfWhole _ = Unit {0}
