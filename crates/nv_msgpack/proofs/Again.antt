-- What was decoded may be encoded again.
use Rattle.std.proofs.Common.{◌≡◌, ℕ, ◌<◌, ◌≤◌, List, length, take, get_or, arith, sym, subst}
use Rattle.std.specs.Prelude.{All}
use Rattle.std.proofs.lemmas.List.Elements.{All-from_get_or}
use Rattle.std.proofs.lemmas.List.{length-take-le, get_or-take}
use Rattle.nv_value.specs.View.{content}
use Rattle.nv_value.specs.Content.{Tree}
use Rattle.nv_msgpack.specs.Reading.{whole, value_at}
use Rattle.nv_msgpack.specs.Shortest.{HasSpelling}
use Rattle.nv_msgpack.specs.declared.decoded.Decoded.{Decoded}
use Rattle.nv_msgpack.specs.declared.decoded.Decoded.TheVariants as answers
use Rattle.nv_msgpack.specs.Decoded.{IsRight, HasSpellingIfWhole}
use Rattle.nv_msgpack.proofs.Exact.{is_whole}
use Rattle.nv_msgpack.proofs.Least.{spelled_has_spelling}

-- The bytes of a front are bytes.
front : (bytes : List ℕ) (n : ℕ) → n ≤ length bytes → ((k : ℕ) → k < length bytes → get_or bytes k 0 < 256) → All (λ b. b < 256) (take n bytes)
front bytes n h each =
    let long : length (take n bytes) ≡ n = length-take-le n bytes h in
    All-from_get_or (λ b. b < 256) (take n bytes) 0 (λ i lt. subst (λ b. b < 256) (sym (get_or-take n bytes i 0 (omega arith))) (each i (omega arith)))

-- What is whole can be spelled.
pub whole_has_spelling : (depth most : ℕ) (bytes : List ℕ) (t : Tree) (n : ℕ) → 1 ≤ most → ((k : ℕ) → k < length bytes → get_or bytes k 0 < 256) → value_at depth most bytes ≡ whole t n → HasSpelling t
whole_has_spelling depth most bytes t n h each e =
    let w = is_whole depth most bytes t n h e in
    (spelled_has_spelling t (take n bytes) (front bytes n w.0 each) (depth, w.1.0)).0

pub has_spelling : (depth most : ℕ) (bytes : List ℕ) (answer : Decoded) → ((k : ℕ) → k < length bytes → get_or bytes k 0 < 256) → IsRight depth most bytes answer → HasSpellingIfWhole answer
has_spelling depth most bytes (answers.Whole value n) each h = (spelled_has_spelling (content value) (take n bytes) (front bytes n h.0 each) (depth, h.1.0)).0
has_spelling depth most bytes answers.NeedsMore each h = tt
has_spelling depth most bytes (answers.Bad n) each h = tt
has_spelling depth most bytes (answers.TooDeep n) each h = tt
has_spelling depth most bytes (answers.TooLong n) each h = tt
