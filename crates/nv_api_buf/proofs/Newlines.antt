-- Lemmas on line feeds in strings.
use Rattle.std.proofs.Common.{◌≡◌, ◌≢◌, ℕ, ◌==◌, Bool, true, false, ◌||◌, List, [], ◌∷◌, ◌++◌, refl, sym, ap, ap₂, ◌∙◌, arith, IsTrue, ◌↔◌}
use Rattle.std.proofs.lemmas.Bool.{false≢true}
use Rattle.std.proofs.lemmas.Bool.Decides.{nat_tests}
use Rattle.std.proofs.lemmas.List.Folds.{list_any-append, list_any_none}
use Rattle.std.proofs.lemmas.List.Elements.{All-cons, All-nil}
use Rattle.std.specs.List.{list_any}
use Rattle.nv_places.specs.Flat.{IsLine}
use Rattle.nv_args.specs.Texts.{has_newline}

-- the two parts of a test by `or` that fails
or_false : (a b : Bool) → a || b ≡ false → (a ≡ false) × (b ≡ false)
or_false true b e = absurd (false≢true (sym e))
or_false false b e = (refl, e)

-- bytes in which no line feed is found are a line
pub line-from_search : (bytes : List ℕ) → has_newline bytes ≡ false → IsLine bytes
line-from_search [] e = All-nil (λ b. b ≢ 10)
line-from_search (b ∷ bytes) e =
    let parts : ((b == 10) ≡ false) × (has_newline bytes ≡ false) = or_false (b == 10) (has_newline bytes) e in
    All-cons (λ b. b ≢ 10) b bytes (grind (arith, nat_tests)) (line-from_search bytes parts.1)

-- in a line no line feed is found
pub search-of_line : (bytes : List ℕ) → IsLine bytes → has_newline bytes ≡ false
search-of_line bytes line = list_any_none (λ b. b == 10) bytes (λ k d within. (let other = line k d within in grind (arith, nat_tests)))

-- what a test of a line that fails says
pub search-of_no_line : (bytes : List ℕ) (test : Bool) → (IsTrue test ↔ IsLine bytes) → test ≡ false → has_newline bytes ≡ true
search-of_no_line bytes test decides e = go (has_newline bytes) refl
  where
    go : (found : Bool) → has_newline bytes ≡ found → has_newline bytes ≡ true
    go true here = here
    go false here = absurd (false≢true (sym e ∙ decides.1 (line-from_search bytes here)))

-- one string with a line feed among others
pub found_at : (front : List (List ℕ)) (string : List ℕ) (rest : List (List ℕ)) → has_newline string ≡ true
    → list_any has_newline (front ++ string ∷ rest) ≡ true
found_at [] string rest e = ap (λ b. b || list_any has_newline rest) e
found_at (first ∷ front) string rest e = or_true (has_newline first) _ (found_at front string rest e)
  where
    or_true : (a b : Bool) → b ≡ true → a || b ≡ true
    or_true true b e = refl
    or_true false b e = e

-- one more string without a line feed
pub clean_push : (front : List (List ℕ)) (string : List ℕ) → list_any has_newline front ≡ false → has_newline string ≡ false
    → list_any has_newline (front ++ string ∷ []) ≡ false
clean_push front string e f = list_any-append has_newline front (string ∷ []) ∙ ap₂ (λ a b. a || (b || false)) e f
