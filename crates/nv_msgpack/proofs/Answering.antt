-- The clauses of `decode`, from the reading from the left.
use Rattle.std.proofs.Common.{◌≡◌, ℕ, ◌≤◌, List, refl, sym, ◌∙◌}
use Rattle.nv_value.specs.View.{content}
use Rattle.nv_msgpack.specs.declared.decoded.Decoded.{Decoded}
use Rattle.nv_msgpack.specs.declared.decoded.Decoded.TheVariants as answers
use Rattle.nv_msgpack.specs.Reading.{bad, too_deep, too_long, more, value_at}
use Rattle.nv_msgpack.specs.Decoded.{decoded_seen, IsRight, ReadsEach, AsksForMore}
use Rattle.nv_msgpack.proofs.Exact.{reads, is_whole, is_partial, wants_more, is_flaw}

pub is_right : (depth most : ℕ) (bytes : List ℕ) (answer : Decoded) → 1 ≤ most → decoded_seen answer ≡ value_at depth most bytes → IsRight depth most bytes answer
is_right depth most bytes (answers.Whole value n) h e = is_whole depth most bytes (content value) n h (sym e)
is_right depth most bytes answers.NeedsMore h e = is_partial depth most bytes h (sym e)
is_right depth most bytes (answers.Bad n) h e = is_flaw depth most bytes bad n h (sym e)
is_right depth most bytes (answers.TooDeep n) h e = is_flaw depth most bytes too_deep n h (sym e)
is_right depth most bytes (answers.TooLong n) h e = is_flaw depth most bytes too_long n h (sym e)

pub reads_each : (depth most : ℕ) (bytes : List ℕ) (answer : Decoded) → decoded_seen answer ≡ value_at depth most bytes → ReadsEach depth most bytes answer
reads_each depth most bytes answer e t front tail split h = e ∙ reads depth most bytes t front tail split h

needs_more : (answer : Decoded) → decoded_seen answer ≡ more → answer ≡ answers.NeedsMore
needs_more (answers.Whole value n) e = cc
needs_more answers.NeedsMore e = refl
needs_more (answers.Bad n) e = cc
needs_more (answers.TooDeep n) e = cc
needs_more (answers.TooLong n) e = cc

pub asks_for_more : (depth most : ℕ) (bytes : List ℕ) (answer : Decoded) → 1 ≤ most → decoded_seen answer ≡ value_at depth most bytes → AsksForMore depth most bytes answer
asks_for_more depth most bytes answer h e p = needs_more answer (e ∙ wants_more depth most bytes h p)
