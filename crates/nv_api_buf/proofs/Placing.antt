-- Lemmas on the rows and columns that numbers name.
use Rattle.std.proofs.Common.{◌≡◌, ℕ, suc, ℤ, pos, negsuc, ◌-◌, ◌<◌, ◌≤◌, Bool, true, false, cond, Some, None, refl, arith}
use Rattle.std.proofs.lemmas.Bool.Decides.{nat_tests}
use Rattle.std.specs.Prelude.{nat_lt}
use Rattle.nv_args.specs.Arguments.{text_row, text_col}

row-some : (b : Bool) (r n k : ℕ) → nat_lt k n ≡ b → Some r ≡ cond b (Some (n - suc k)) None → r < n
row-some true r n k t e = let within : k < n = grind (arith, nat_tests) in let same : r ≡ n - suc k = cc in omega arith
row-some false r n k t e = cc

row-here : (b : Bool) (r n k : ℕ) → nat_lt k n ≡ b → Some r ≡ cond b (Some k) None → r < n
row-here true r n k t e = let within : k < n = grind (arith, nat_tests) in let same : r ≡ k = cc in omega arith
row-here false r n k t e = cc

-- a row that is named is one of the text
pub row-within : (row : ℤ) (n r : ℕ) → Some r ≡ text_row row n → r < n
row-within (pos k) n r e = row-here (nat_lt k n) r n k refl e
row-within (negsuc k) n r e = row-some (nat_lt k n) r n k refl e

col-some : (b : Bool) (c n k : ℕ) → nat_lt n k ≡ b → Some c ≡ cond b None (Some (n - k)) → c ≤ n
col-some true c n k t e = cc
col-some false c n k t e = let same : c ≡ n - k = cc in omega arith

col-here : (b : Bool) (c n k : ℕ) → nat_lt n k ≡ b → Some c ≡ cond b None (Some k) → c ≤ n
col-here true c n k t e = cc
col-here false c n k t e = let within : k ≤ n = grind (arith, nat_tests) in let same : c ≡ k = cc in omega arith

-- a column that is named is one of the line, or its end
pub col-within : (col : ℤ) (n c : ℕ) → Some c ≡ text_col col n → c ≤ n
col-within (pos k) n c e = col-here (nat_lt n k) c n k refl e
col-within (negsuc k) n c e = col-some (nat_lt n k) c n k refl e
