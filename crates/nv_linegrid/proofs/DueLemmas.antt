-- Cells that aren't due are shown already.
use Rattle.std.proofs.Common.{◌≡◌, ℕ, zero, suc, ◌+◌, ◌-◌, ◌<◌, ◌≤◌, ltb, List, [], ◌∷◌, ◌++◌, length, map, take, drop, get_or, Bool, true, false, cond, not, ◌&&◌, Option, Some, None, refl, ap, sym, ◌∙◌, append_assoc, arith, inl, inr}
use Rattle.std.proofs.lemmas.Bool.{or_parts, lt-ltb, false≢true, cases_lt, cases_eq}
use Rattle.std.proofs.lemmas.List.{take-append-drop, drop-drop, length-take-le, length-drop, map-append}
use Rattle.nv_linegrid.specs.Client.{Shown, row_with}
use Rattle.nv_linegrid.specs.Rows.{no_cell, shows_cell, differs_at, is_right_at, is_due, first_due, end_due}
use Rattle.nv_linegrid.proofs.SameLemmas.{same_shown_is}

shows_is : (o : Option Shown) (c : Shown) → shows_cell o c ≡ true → o ≡ Some c
shows_is None c e = absurd (false≢true e)
shows_is (Some s) c e = ap Some (same_shown_is s c e)

-- where both tests of a difference say no
no_difference : (within shows : Bool) → (within && not shows) ≡ false → within ≡ true → shows ≡ true
no_difference true true e h = refl
no_difference true false e h = absurd (false≢true (sym e))
no_difference false shows e h = absurd (false≢true h)

not_due : (old : List (Option Shown)) (new : List Shown) (i : ℕ) → is_due old new i ≡ false → i < length new
    → get_or old i None ≡ Some (get_or new i no_cell)
unfolding is_due
not_due old new i e within =
    let differs = (or_parts (differs_at old new i) (is_right_at new i && ltb 0 i && differs_at old new (i - 1)) (or_parts _ (is_right_at new (i + 1) && differs_at old new (i + 1)) e).0).0 in
    shows_is (get_or old i None) (get_or new i no_cell)
    (no_difference (ltb i (length new)) (shows_cell (get_or old i None) (get_or new i no_cell)) differs (lt-ltb i (length new) within))

before_first : (old : List (Option Shown)) (new : List Shown) (n i k : ℕ) → i ≤ k → k < first_due old new n i
    → is_due old new k ≡ false
before_first old new zero i k least below = absurd (omega arith)
before_first old new (suc n) i k least below =
    by (is_due old new i) refl below (before_first old new n (i + 1) k)
  where
    by : (b : Bool) → is_due old new i ≡ b → k < cond b i (first_due old new n (i + 1))
        → (i + 1 ≤ k → k < first_due old new n (i + 1) → is_due old new k ≡ false) → is_due old new k ≡ false
    by true e lt more = absurd (omega arith)
    by false e lt more = elim (cases_eq i k) [
      | inl same ↦ ap (is_due old new) (sym same) ∙ e
      | inr other ↦ more (omega (arith, other)) lt
    ]

after_end : (old : List (Option Shown)) (new : List Shown) (n k : ℕ) → end_due old new n ≤ k → k < n
    → is_due old new k ≡ false
after_end old new zero k least below = absurd (omega arith)
after_end old new (suc n) k least below = by (is_due old new n) refl least (after_end old new n k)
  where
    by : (b : Bool) → is_due old new n ≡ b → cond b (suc n) (end_due old new n) ≤ k
        → (end_due old new n ≤ k → k < n → is_due old new k ≡ false) → is_due old new k ≡ false
    by true e le more = absurd (omega arith)
    by false e le more = elim (cases_eq n k) [
      | inl same ↦ ap (is_due old new) (sym same) ∙ e
      | inr other ↦ more le (omega (arith, other))
    ]

pub first_within : (old : List (Option Shown)) (new : List Shown) (n i : ℕ) → first_due old new n i ≤ i + n
first_within old new zero i = omega arith
first_within old new (suc n) i = by (is_due old new i) (first_within old new n (i + 1))
  where
    by : (b : Bool) → first_due old new n (i + 1) ≤ i + 1 + n → cond b i (first_due old new n (i + 1)) ≤ i + suc n
    by true le = omega arith
    by false le = omega arith

pub end_within : (old : List (Option Shown)) (new : List Shown) (n : ℕ) → end_due old new n ≤ n
end_within old new zero = omega arith
end_within old new (suc n) = by (is_due old new n) (end_within old new n)
  where
    by : (b : Bool) → end_due old new n ≤ n → cond b (suc n) (end_due old new n) ≤ suc n
    by true le = omega arith
    by false le = omega arith

pub first_is_due : (old : List (Option Shown)) (new : List Shown) (n i : ℕ) → first_due old new n i < i + n
    → is_due old new (first_due old new n i) ≡ true
first_is_due old new zero i below = absurd (omega arith)
first_is_due old new (suc n) i below = by (is_due old new i) refl below (first_is_due old new n (i + 1))
  where
    by : (b : Bool) → is_due old new i ≡ b → cond b i (first_due old new n (i + 1)) < i + suc n
        → (first_due old new n (i + 1) < i + 1 + n → is_due old new (first_due old new n (i + 1)) ≡ true)
        → is_due old new (cond b i (first_due old new n (i + 1))) ≡ true
    by true e lt more = e
    by false e lt more = more (omega arith)

pub end_is_due : (old : List (Option Shown)) (new : List Shown) (n : ℕ) → 0 < end_due old new n
    → is_due old new (end_due old new n - 1) ≡ true
end_is_due old new zero some = absurd (omega arith)
end_is_due old new (suc n) some = by (is_due old new n) refl some (end_is_due old new n)
  where
    by : (b : Bool) → is_due old new n ≡ b → 0 < cond b (suc n) (end_due old new n)
        → (0 < end_due old new n → is_due old new (end_due old new n - 1) ≡ true)
        → is_due old new (cond b (suc n) (end_due old new n) - 1) ≡ true
    by true e lt more = ap (is_due old new) (omega arith) ∙ e
    by false e lt more = more lt

-- ---- rows that show the same before and behind

abbrev Agree : ℕ → ℕ → List (Option Shown) → List Shown → Type 0
Agree from to old new = (k : ℕ) → from ≤ k → k < to → k < length new → get_or old k None ≡ Some (get_or new k no_cell)

front_same : (n : ℕ) (old : List (Option Shown)) (new : List Shown) → length old ≡ length new → Agree 0 n old new
    → take n old ≡ map Some (take n new)
front_same zero old new len all = refl
front_same (suc n) [] [] len all = refl
front_same (suc n) [] (c ∷ new) len all = absurd (omega arith)
front_same (suc n) (o ∷ old) [] len all = absurd (omega arith)
front_same (suc n) (o ∷ old) (c ∷ new) len all =
    let head : o ≡ Some c = all 0 (omega arith) (omega arith) (omega arith) in
    let rest = front_same n old new (omega arith) (λ k least below within. all (suc k) (omega arith) (omega arith) (omega arith)) in
    λ i. head i ∷ rest i

back_same : (n : ℕ) (old : List (Option Shown)) (new : List Shown) → length old ≡ length new → Agree n (length new) old new
    → drop n old ≡ map Some (drop n new)
back_same zero [] [] len all = refl
back_same zero [] (c ∷ new) len all = absurd (omega arith)
back_same zero (o ∷ old) [] len all = absurd (omega arith)
back_same zero (o ∷ old) (c ∷ new) len all =
    let head : o ≡ Some c = all 0 (omega arith) (omega arith) (omega arith) in
    let rest = back_same zero old new (omega arith) (λ k least below within. all (suc k) (omega arith) (omega arith) (omega arith)) in
    λ i. head i ∷ rest i
back_same (suc n) [] [] len all = refl
back_same (suc n) [] (c ∷ new) len all = absurd (omega arith)
back_same (suc n) (o ∷ old) [] len all = absurd (omega arith)
back_same (suc n) (o ∷ old) (c ∷ new) len all =
    back_same n old new (omega arith) (λ k least below within. all (suc k) (omega arith) (omega arith) (omega arith))

-- a row with the cells from the first due one to the last shows the new row
pub row_told : (old : List (Option Shown)) (new : List Shown) → length old ≡ length new
    → first_due old new (length new) 0 < end_due old new (length new)
    → row_with old (first_due old new (length new) 0)
    (take (end_due old new (length new) - first_due old new (length new) 0) (drop (first_due old new (length new) 0) new))
    ≡ map Some new
row_told old new len some = put (first_due old new (length new) 0) (end_due old new (length new)) some (end_within old new (length new))
    (λ k least below within. not_due old new k (before_first old new (length new) 0 k least below) within)
    (λ k least below within. not_due old new k (after_end old new (length new) k least below) within)
  where
    put : (first end : ℕ) → first < end → end ≤ length new → Agree 0 first old new → Agree end (length new) old new
        → row_with old first (take (end - first) (drop first new)) ≡ map Some new
    put first end lt le front back =
        let seg = take (end - first) (drop first new) in
        let long : length seg ≡ end - first = length-take-le (end - first) (drop first new) (omega (arith, length-drop first new)) in
        let behind : drop (first + length seg) old ≡ map Some (drop end new) =
        ap (λ k. drop (first + k) old) long ∙ ap (λ k. drop k old) (omega arith) ∙ back_same end old new len back in
        let parts : take first new ++ (seg ++ drop end new) ≡ new =
        ap (λ xs. take first new ++ (seg ++ xs)) (sym (drop-drop (end - first) first new ∙ ap (λ k. drop k new) (omega arith)))
        ∙ ap (λ xs. take first new ++ xs) (take-append-drop (end - first) (drop first new))
        ∙ take-append-drop first new in
        ap (λ xs. xs ++ map Some seg ++ drop (first + length seg) old) (front_same first old new len front)
        ∙ ap (λ xs. map Some (take first new) ++ map Some seg ++ xs) behind
        ∙ append_assoc (map Some (take first new)) (map Some seg) (map Some (drop end new))
        ∙ ap (λ xs. map Some (take first new) ++ xs) (sym (map-append Some seg (drop end new)))
        ∙ sym (map-append Some (take first new) (seg ++ drop end new))
        ∙ ap (map Some) parts

-- a row without a line shows the new row already
pub row_shown : (old : List (Option Shown)) (new : List Shown) → length old ≡ length new
    → end_due old new (length new) ≤ first_due old new (length new) 0 → old ≡ map Some new
row_shown old new len none =
    back_same 0 old new len
    (λ k least below within. elim (cases_lt k (first_due old new (length new) 0)) [
      | inl lt ↦ not_due old new k (before_first old new (length new) 0 k least lt) within
      | inr le ↦ not_due old new k (after_end old new (length new) k (omega arith) within) within
    ])
