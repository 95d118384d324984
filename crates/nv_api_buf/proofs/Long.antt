-- Lemmas on lines that are too long, and on those that join what stands before and behind them.
use Rattle.std.proofs.Common.{◌≡◌, ℕ, zero, suc, ◌+◌, ◌^◌, ◌<◌, ◌≤◌, Bool, true, false, ◌||◌, List, [], ◌∷◌, length, take, get_or, All, Some, slice_get, refl, sym, ap, ap₂, ◌∙◌, arith}
use Rattle.std.proofs.lemmas.Bool.{false≢true}
use Rattle.std.proofs.lemmas.Bool.Decides.{nat_tests}
use Rattle.std.proofs.lemmas.List.{take_more, take_all}
use Rattle.std.proofs.lemmas.List.Folds.{list_any-append}
use Rattle.std.proofs.lemmas.List.Elements.{All-nil, All-cons}
use Rattle.std.proofs.lemmas.Option.{get_or_from_slice_get}
use Rattle.std.specs.List.{list_any}
use Rattle.nv_buffer.specs.Splices.{IsNarrowLine, with_front, with_back}
use Rattle.nv_buffer.proofs.Between.{length-between}
use Rattle.nv_api_buf.specs.inside.Parts.{joined_line, is_longer}
use Rattle.nv_api_buf.proofs.Between.{joined-at}

pub or_false : (a b : Bool) → a || b ≡ false → (a ≡ false) × (b ≡ false)
or_false true b e = absurd (false≢true (sym e))
or_false false b e = (refl, e)

or_true : (a b : Bool) → b ≡ true → a || b ≡ true
or_true true b e = refl
or_true false b e = e

-- one more line that isn't too long
pub long-more : (most : ℕ) (lines : List (List ℕ)) (k : ℕ) → k < length lines → list_any (is_longer most) (take k lines) ≡ false
    → is_longer most (get_or lines k []) ≡ false → list_any (is_longer most) (take (k + 1) lines) ≡ false
long-more most lines k h before this =
    ap (list_any (is_longer most)) (take_more lines k [] h)
    ∙ list_any-append (is_longer most) (take k lines) (get_or lines k [] ∷ [])
    ∙ ap₂ (λ a b. a || (b || false)) before this

-- one that is too long
pub long-found : (most : ℕ) (lines : List (List ℕ)) (k : ℕ) → k < length lines → is_longer most (get_or lines k []) ≡ true → true ≡ list_any (is_longer most) lines
long-found most [] k h e = absurd (omega arith)
long-found most (line ∷ lines) zero h e = sym (ap (λ b. b || list_any (is_longer most) lines) e)
long-found most (line ∷ lines) (suc k) h e = sym (or_true (is_longer most line) (list_any (is_longer most) lines) (sym (long-found most lines k (omega arith) e)))

-- none is where none of as many as there are is
pub long-none : (most : ℕ) (lines : List (List ℕ)) (k : ℕ) → length lines ≤ k → list_any (is_longer most) (take k lines) ≡ false → false ≡ list_any (is_longer most) lines
long-none most lines k h none = sym (ap (list_any (is_longer most)) (sym (take_all k lines h)) ∙ none)

-- lines of which none is too long are narrow
pub short-narrow : (most : ℕ) (lines : List (List ℕ)) → most < 2 ^ 32 → list_any (is_longer most) lines ≡ false → All IsNarrowLine lines
short-narrow most [] few none = All-nil IsNarrowLine
short-narrow most (line ∷ lines) few none =
    let parts = or_false (is_longer most line) (list_any (is_longer most) lines) none in
    let here : length line ≤ most = let e : is_longer most line ≡ false = parts.0 in grind (arith, nat_tests) in
    All-cons IsNarrowLine line lines (omega arith) (short-narrow most lines few parts.1)

-- the line that is got from a list
pub line-is : (lines : List (List ℕ)) (k : ℕ) (line : List ℕ) → Some line ≡ slice_get lines k → get_or lines k [] ≡ line
line-is lines k line e = get_or_from_slice_get lines k line [] (sym e)

-- the same of lines that are joined
pub joined-is : (front back : List ℕ) (lines : List (List ℕ)) (k n : ℕ) (line : List ℕ) → n ≡ length lines → k < n → Some line ≡ slice_get lines k
    → get_or (with_back (with_front front lines) back) k [] ≡ joined_line line k n front back
joined-is front back lines k n line same h e = joined-at front back lines k n line same h (sym (line-is lines k line e))

pub joined-within : (front back : List ℕ) (lines : List (List ℕ)) (k n : ℕ) → n ≡ length lines → k < n
    → k < length (with_back (with_front front lines) back)
joined-within front back lines k n same h = omega (arith, length-between front back lines (omega arith))

pub joined-end : (front back : List ℕ) (lines : List (List ℕ)) (k n : ℕ) → n ≡ length lines → 0 < length lines → n ≤ k
    → length (with_back (with_front front lines) back) ≤ k
joined-end front back lines k n same some h = omega (arith, length-between front back lines some)
