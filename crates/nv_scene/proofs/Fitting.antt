-- The lines that fit in front of a cursor.
use Rattle.std.proofs.Common.{◌≡◌, ℕ, zero, suc, ◌+◌, ◌-◌, ◌<◌, ◌≤◌, Bool, true, false, cond, nat_le, nat_lt, List, [], ◌∷◌, length, drop, take, get_or, slice_range, refl, sym, ap, subst, ◌∙◌, ◌⊎◌, inl, inr, arith}
use Rattle.std.proofs.lemmas.Bool.Decides.{nat_tests}
use Rattle.std.proofs.lemmas.List.{drop_more}
use Rattle.nv_layout.specs.Division.{total}
use Rattle.nv_scene.specs.Settling.{first_fitting, lines_fit, settled_top}

-- the rows of the lines from one on, up to the last, both included
abbrev pub rows_from : List ℕ → ℕ → ℕ → ℕ
rows_from heights last first = total (slice_range heights first (suc last))

pub none_more : (hs : List ℕ) (last : ℕ) → rows_from hs last (suc last) ≡ 0
none_more hs last = let none : suc last - suc last ≡ 0 = omega arith in ap (λ (n : ℕ). total (take n (drop (suc last) hs))) none

pub one_more : (hs : List ℕ) (last k h : ℕ) → k ≤ last → last < length hs → h ≡ get_or hs k h → rows_from hs last k ≡ h + rows_from hs last (suc k)
one_more hs last k h before within is =
    let count : suc last - k ≡ suc (suc last - suc k) = omega arith in
    let next : k + 1 ≡ suc k = omega arith in
    let behind : drop k hs ≡ h ∷ drop (suc k) hs = drop_more hs k h (omega arith) ∙ (λ i. sym is i ∷ drop (next i) hs) in
    (λ i. total (take (count i) (behind i)))

-- more lines have no fewer rows
fewer : (hs : List ℕ) (last k d : ℕ) → last < length hs → k + d ≤ suc last → rows_from hs last (k + d) ≤ rows_from hs last k
fewer hs last k zero within h = let same : k + 0 ≡ k = omega arith in omega (arith, ap (rows_from hs last) same)
fewer hs last k (suc d) within h =
    let here = one_more hs last k (get_or hs k 0) (omega arith) within (defaulted hs k) in
    let rest = fewer hs last (suc k) d within (omega arith) in
    let same : k + suc d ≡ suc k + d = omega arith in
    omega (arith, here, rest, ap (rows_from hs last) same)
  where
    defaulted : (hs : List ℕ) (k : ℕ) → get_or hs k 0 ≡ get_or hs k (get_or hs k 0)
    defaulted [] k = refl
    defaulted (h ∷ hs) zero = refl
    defaulted (h ∷ hs) (suc k) = defaulted hs k

pub no_fewer : (hs : List ℕ) (last j k : ℕ) → last < length hs → k ≤ j → j ≤ suc last → rows_from hs last j ≤ rows_from hs last k
no_fewer hs last j k within h most =
    let f = fewer hs last k (j - k) within (omega arith) in
    let same : k + (j - k) ≡ j = omega arith in
    omega (arith, f, ap (rows_from hs last) same)

too_many : (n rows : ℕ) → rows < n → nat_le n rows ≡ false
too_many n rows h = grind (arith, nat_tests)

as_many : (n rows : ℕ) → n ≤ rows → nat_le n rows ≡ true
as_many n rows h = grind (arith, nat_tests)

-- lines in front of those that don't fit don't fit
pub failing : (rows : ℕ) (hs : List ℕ) (last p m : ℕ) → last < length hs → p ≤ m → m ≤ last
    → (p < m → rows < rows_from hs last (last - suc p)) → first_fitting rows hs last m ≡ first_fitting rows hs last p
failing rows hs last p zero within h most fails = let same : zero ≡ p = omega arith in ap (first_fitting rows hs last) same
failing rows hs last p (suc m) within h most fails = by (nat_lt p (suc m)) refl (λ a b c. failing rows hs last p m within a b c)
  where
    below : nat_lt p (suc m) ≡ true → p < suc m
    below e = grind (arith, nat_tests)

    same : nat_lt p (suc m) ≡ false → suc m ≡ p
    same e = grind (arith, nat_tests)

    by : (t : Bool) → nat_lt p (suc m) ≡ t
        → (p ≤ m → m ≤ last → (p < m → rows < rows_from hs last (last - suc p)) → first_fitting rows hs last m ≡ first_fitting rows hs last p)
        → first_fitting rows hs last (suc m) ≡ first_fitting rows hs last p
    by true e rest =
        let over : rows < rows_from hs last (last - suc m) = omega (arith, fails (below e), no_fewer hs last (last - suc p) (last - suc m) within (omega (arith, below e)) (omega arith)) in
        ap (λ (b : Bool). cond b (last - suc m) (first_fitting rows hs last m)) (too_many (rows_from hs last (last - suc m)) rows over)
        ∙ rest (omega (arith, below e)) (omega arith) (λ g. fails (below e))
    by false e rest = ap (first_fitting rows hs last) (same e)

-- the lines that fit
pub fitting : (rows : ℕ) (hs : List ℕ) (last p : ℕ) → rows_from hs last (last - p) ≤ rows → first_fitting rows hs last p ≡ last - p
fitting rows hs last zero h = omega arith
fitting rows hs last (suc p) h =
    ap (λ (b : Bool). cond b (last - suc p) (first_fitting rows hs last p)) (as_many (rows_from hs last (last - suc p)) rows h)

-- it is the last, or a line before it from which they fit
pub first_fitting_is : (rows : ℕ) (hs : List ℕ) (last n : ℕ)
    → (first_fitting rows hs last n ≡ last) ⊎ ((k : ℕ) × (first_fitting rows hs last n ≡ k) × (last - n ≤ k) × (k ≤ last) × (rows_from hs last k ≤ rows))
first_fitting_is rows hs last zero = inl refl
first_fitting_is rows hs last (suc n) = by (lines_fit rows hs (last - suc n) last) refl (first_fitting_is rows hs last n)
  where
    fits : (a b : ℕ) → nat_le a b ≡ true → a ≤ b
    fits a b e = grind (arith, nat_tests)

    by : (t : Bool) → lines_fit rows hs (last - suc n) last ≡ t
        → (first_fitting rows hs last n ≡ last) ⊎ ((k : ℕ) × (first_fitting rows hs last n ≡ k) × (last - n ≤ k) × (k ≤ last) × (rows_from hs last k ≤ rows))
        → (cond t (last - suc n) (first_fitting rows hs last n) ≡ last) ⊎ ((k : ℕ) × (cond t (last - suc n) (first_fitting rows hs last n) ≡ k) × (last - suc n ≤ k) × (k ≤ last) × (rows_from hs last k ≤ rows))
    by true e rest = inr (last - suc n, refl, omega arith, omega arith, fits (rows_from hs last (last - suc n)) rows e)
    by false e (inl is) = inl is
    by false e (inr found) = inr (found.0, found.1, omega (arith, found.2), found.3, found.4)

-- the first line is the cursor's or one before it
pub top_within : (rows : ℕ) (hs : List ℕ) (cursor top : ℕ) → settled_top rows hs cursor top ≤ cursor
top_within rows hs cursor top = by (nat_lt cursor top) (first_fitting_is rows hs cursor (cursor - top))
  where
    by : (t : Bool) → (first_fitting rows hs cursor (cursor - top) ≡ cursor) ⊎ ((k : ℕ) × (first_fitting rows hs cursor (cursor - top) ≡ k) × (cursor - (cursor - top) ≤ k) × (k ≤ cursor) × (rows_from hs cursor k ≤ rows))
        → cond t cursor (first_fitting rows hs cursor (cursor - top)) ≤ cursor
    by true f = omega arith
    by false (inl is) = omega (arith, is)
    by false (inr found) = omega (arith, found.1, found.3)

-- settling again changes nothing
pub settled_again : (rows : ℕ) (hs : List ℕ) (cursor top : ℕ) → settled_top rows hs cursor (settled_top rows hs cursor top) ≡ settled_top rows hs cursor top
settled_again rows hs cursor top = by (nat_lt cursor top) (first_fitting_is rows hs cursor (cursor - top))
  where
    not_before : (m n : ℕ) → n ≤ m → nat_lt m n ≡ false
    not_before m n h = grind (arith, nat_tests)

    at_cursor : (n : ℕ) → n ≡ cursor → settled_top rows hs cursor n ≡ n
    at_cursor n e =
        let none : cursor - n ≡ 0 = omega (arith, e) in
        ap (λ (t : Bool). cond t cursor (first_fitting rows hs cursor (cursor - n))) (not_before cursor n (omega (arith, e)))
        ∙ ap (first_fitting rows hs cursor) none ∙ sym e

    at_fitting : (n : ℕ) → n ≤ cursor → rows_from hs cursor n ≤ rows → settled_top rows hs cursor n ≡ n
    at_fitting n before h =
        let back : n ≡ cursor - (cursor - n) = omega arith in
        ap (λ (t : Bool). cond t cursor (first_fitting rows hs cursor (cursor - n))) (not_before cursor n before)
        ∙ fitting rows hs cursor (cursor - n) (subst (λ (k : ℕ). rows_from hs cursor k ≤ rows) back h)
        ∙ sym back

    by : (t : Bool) → (first_fitting rows hs cursor (cursor - top) ≡ cursor) ⊎ ((k : ℕ) × (first_fitting rows hs cursor (cursor - top) ≡ k) × (cursor - (cursor - top) ≤ k) × (k ≤ cursor) × (rows_from hs cursor k ≤ rows))
        → settled_top rows hs cursor (cond t cursor (first_fitting rows hs cursor (cursor - top))) ≡ cond t cursor (first_fitting rows hs cursor (cursor - top))
    by true f = at_cursor cursor refl
    by false (inl is) = at_cursor (first_fitting rows hs cursor (cursor - top)) is
    by false (inr found) =
        at_fitting (first_fitting rows hs cursor (cursor - top)) (omega (arith, found.1, found.3))
        (subst (λ (k : ℕ). rows_from hs cursor k ≤ rows) (sym found.1) found.4)
