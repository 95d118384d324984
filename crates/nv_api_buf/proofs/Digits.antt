-- Lemmas on the numbers that decimal digits write.
use Rattle.std.proofs.Common.{◌≡◌, ℕ, zero, suc, ◌*◌, ◌<◌, ◌≤◌, List, drop, arith}
use Rattle.std.specs.Str.{all_ascii_digits}
use Rattle.std.specs.Str.Parse.{digits_value, digits_value_after}

-- the number that is written by one and as many zeros
abbrev pub tens : ℕ → ℕ
tens zero = 1
tens (suc n) = 10 * tens n

tens-some : (n : ℕ) → 1 ≤ tens n
tens-some zero = omega arith
tens-some (suc n) = omega (arith, tens-some n)

-- more zeros write a greater number
tens-mono : (m n : ℕ) → m ≤ n → tens m ≤ tens n
tens-mono zero n h = tens-some n
tens-mono (suc m) zero h = absurd (omega arith)
tens-mono (suc m) (suc n) h = omega (arith, tens-mono m n (omega arith))

-- the digits before a place were read: what they write, and what is left of the test and of the number
pub record ReadTo (digits : List ℕ) (place number : ℕ) : Type 0 where
  pub test : all_ascii_digits (drop place digits) ≡ all_ascii_digits digits
  pub value : digits_value_after 10 number (drop place digits) ≡ digits_value 10 digits
  pub small : number < tens place

-- so few digits and one more write a number of 64 bits
pub read-small : (digits : List ℕ) (place number : ℕ) → ReadTo digits place number → place < 18 → number < 100000000000000000
read-small digits place number read few = omega (arith, read.small, tens-mono place 17 (omega arith))
