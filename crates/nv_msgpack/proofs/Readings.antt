-- What a reading that is whole, unfinished or flawed was made of.
use Rattle.std.proofs.Common.{◌≡◌, ◌⊎◌, ℕ, ◌+◌, refl, inl, inr}
use Rattle.nv_msgpack.specs.Reading.{Reading, whole, more, flawed, Flaw, map_reading, after, reading_then}

pub mapped-is_whole : {A B : Type 0} (f : A → B) (r : Reading A) (y : B) (k : ℕ) → map_reading f r ≡ whole y k → (x : A) × (r ≡ whole x k) × (y ≡ f x)
mapped-is_whole f (whole a j) y k e = (a, cc, cc)
mapped-is_whole f more y k e = cc
mapped-is_whole f (flawed x j) y k e = cc

pub mapped-is_more : {A B : Type 0} (f : A → B) (r : Reading A) → map_reading f r ≡ more → r ≡ more
mapped-is_more f (whole a j) e = cc
mapped-is_more f more e = refl
mapped-is_more f (flawed x j) e = cc

pub mapped-is_flawed : {A B : Type 0} (f : A → B) (r : Reading A) (x : Flaw) (k : ℕ) → map_reading f r ≡ flawed x k → r ≡ flawed x k
mapped-is_flawed f (whole a j) x k e = cc
mapped-is_flawed f more x k e = cc
mapped-is_flawed f (flawed y j) x k e = cc

pub after-is_whole : {A : Type 0} (n : ℕ) (r : Reading A) (y : A) (k : ℕ) → after n r ≡ whole y k → (j : ℕ) × (r ≡ whole y j) × (k ≡ n + j)
after-is_whole n (whole a j) y k e = (j, cc, cc)
after-is_whole n more y k e = cc
after-is_whole n (flawed x j) y k e = cc

pub after-is_more : {A : Type 0} (n : ℕ) (r : Reading A) → after n r ≡ more → r ≡ more
after-is_more n (whole a j) e = cc
after-is_more n more e = refl
after-is_more n (flawed x j) e = cc

pub after-is_flawed : {A : Type 0} (n : ℕ) (r : Reading A) (x : Flaw) (k : ℕ) → after n r ≡ flawed x k → (j : ℕ) × (r ≡ flawed x j) × (k ≡ n + j)
after-is_flawed n (whole a j) x k e = cc
after-is_flawed n more x k e = cc
after-is_flawed n (flawed y j) x k e = (j, cc, cc)

pub chained-is_whole : {A B : Type 0} (r : Reading A) (next : A → ℕ → Reading B) (y : B) (k : ℕ) → reading_then r next ≡ whole y k
    → (a : A) × (j : ℕ) × (m : ℕ) × (r ≡ whole a j) × (next a j ≡ whole y m) × (k ≡ j + m)
chained-is_whole (whole a j) next y k e = let t = after-is_whole j (next a j) y k e in (a, j, t.0, refl, t.1, t.2)
chained-is_whole more next y k e = cc
chained-is_whole (flawed x j) next y k e = cc

pub chained-is_more : {A B : Type 0} (r : Reading A) (next : A → ℕ → Reading B) → reading_then r next ≡ more
    → (r ≡ more) ⊎ ((a : A) × (j : ℕ) × (r ≡ whole a j) × (next a j ≡ more))
chained-is_more (whole a j) next e = inr (a, j, refl, after-is_more j (next a j) e)
chained-is_more more next e = inl refl
chained-is_more (flawed x j) next e = cc

pub chained-is_flawed : {A B : Type 0} (r : Reading A) (next : A → ℕ → Reading B) (x : Flaw) (k : ℕ) → reading_then r next ≡ flawed x k
    → (r ≡ flawed x k) ⊎ ((a : A) × (j : ℕ) × (m : ℕ) × (r ≡ whole a j) × (next a j ≡ flawed x m) × (k ≡ j + m))
chained-is_flawed (whole a j) next x k e = let t = after-is_flawed j (next a j) x k e in inr (a, j, t.0, refl, t.1, t.2)
chained-is_flawed more next x k e = cc
chained-is_flawed (flawed y j) next x k e = inl cc
