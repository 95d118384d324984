-- A line has no place where a byte 10 is first found.
use Rattle.std.proofs.Common.{◌≡◌, ◌≢◌, ℕ, Bool, true, false, not, Option, None, Some, List, refl, arith, is_some}
use Rattle.std.proofs.lemmas.List.Elements.{All-get_or, All-from_get_or}
use Rattle.std.proofs.lemmas.Bool.Decides.{nat_tests}
use Rattle.memchr.specs.Find.{IsFirstByte, is_byte}
use Rattle.nv_places.specs.Flat.{IsLine}

pub is_line-no_feed : (bytes : List ℕ) (found : Option ℕ) → IsFirstByte (is_byte 10) bytes found → IsLine bytes → is_some found ≡ false
is_line-no_feed bytes None h line = refl
is_line-no_feed bytes (Some k) h line = absurd (All-get_or (λ b. b ≢ 10) bytes k 0 h.0.high line (grind (arith, nat_tests)))

pub no_feed-is_line : (bytes : List ℕ) (found : Option ℕ) → IsFirstByte (is_byte 10) bytes found → is_some found ≡ false → IsLine bytes
no_feed-is_line bytes None h none = All-from_get_or (λ b. b ≢ 10) bytes 0 (λ i within e. h i (omega arith) within (grind (arith, nat_tests)))
no_feed-is_line bytes (Some k) h none = absurd (cc)

pub not-false : (b : Bool) → false ≡ not b → b ≡ true
not-false true e = refl
not-false false e = absurd (cc)
