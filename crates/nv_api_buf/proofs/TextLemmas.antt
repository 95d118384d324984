-- Lemmas on texts and the rows that indices name.
use Rattle.std.proofs.Common.{◌≡◌, ℕ, suc, ◌+◌, ◌-◌, ◌<◌, ◌≤◌, List, [], ◌∷◌, length, take, drop, map, refl, ap, sym, ◌∙◌, inl, inr, arith, get_or}
use Rattle.std.proofs.Math.Seq.{drop-cons}
use Rattle.std.proofs.lemmas.Bool.{cases_lt}
use Rattle.std.specs.List.{slice_range}
use Rattle.nv_value.specs.Content.{text, one, trees_of}
use Rattle.nv_places.specs.Flat.{line_at}
use Rattle.nv_args.specs.Texts.{strings}

-- the strings of lines, one by one
pub strings_are : (lines : List (List ℕ)) → strings lines ≡ trees_of (map text lines)
strings_are [] = refl
strings_are (line ∷ lines) = ap (one (text line)) (strings_are lines)

-- a range whose start isn't before its end
pub range_none : (lines : List (List ℕ)) (from to : ℕ) → to ≤ from → slice_range lines from to ≡ []
range_none lines from to h = ap (λ (n : ℕ). take n (drop from lines)) (let none : to - from ≡ 0 = omega arith in none)

-- the first row of a range, and the others
range_cons : (lines : List (List ℕ)) (row to : ℕ) → row < to → to ≤ length lines → slice_range lines row to ≡ line_at lines row ∷ slice_range lines (row + 1) to
range_cons lines row to less within =
    let e : to - row ≡ suc (to - (row + 1)) = omega arith in
    let next : suc row ≡ row + 1 = omega arith in
    ap (λ (n : ℕ). take n (drop row lines)) e
    ∙ ap (λ (l : List (List ℕ)). take (suc (to - (row + 1))) l) (drop-cons lines row [] (omega arith))
    ∙ ap (λ (k : ℕ). line_at lines row ∷ take (to - (row + 1)) (drop k lines)) next

-- what a range begins with is its first row
pub range_first : (lines : List (List ℕ)) (row to : ℕ) (line : List ℕ) (rest : List (List ℕ)) → to ≤ length lines → slice_range lines row to ≡ line ∷ rest
    → (row < to) × (line_at lines row ≡ line) × (slice_range lines (row + 1) to ≡ rest)
range_first lines row to line rest within e = elim (cases_lt row to) [
  | inl less ↦ (let c = sym (range_cons lines row to less within) ∙ e in
      (less, ap (λ (l : List (List ℕ)). line_at l 0) c, ap (λ (l : List (List ℕ)). drop 1 l) c))
  | inr over ↦ absurd (let none : 0 ≡ suc (length rest) = ap (length {A = List ℕ}) (sym (range_none lines row to over) ∙ e) in omega arith)
]

-- the rows of a range that has none left
pub range_last : (lines : List (List ℕ)) (row to : ℕ) → to ≤ length lines → slice_range lines row to ≡ [] → to ≤ row
range_last lines row to within e = elim (cases_lt row to) [
  | inl less ↦ absurd (let none : suc (length (slice_range lines (row + 1) to)) ≡ 0 = ap (length {A = List ℕ}) (sym (range_cons lines row to less within) ∙ e) in omega arith)
  | inr over ↦ over
]

-- a list of one element, which was looked up there
pub sole : {X : Type 0} (xs : List X) (x : X) → length xs ≡ 1 → x ≡ get_or xs 0 x → x ∷ [] ≡ xs
sole [] x h is = absurd (let no_number : 0 ≡ 1 = h in omega arith)
sole (y ∷ []) x h is = ap (λ z. z ∷ []) is
sole (y ∷ z ∷ zs) x h is = absurd (let no_number : suc (suc (length zs)) ≡ 1 = h in omega arith)
