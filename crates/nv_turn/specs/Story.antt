-- A story is a list of entries, each with the number of its caller. (Own rules.)
use Rattle.std.specs.Prelude.{◌≡◌, ℕ, ◌<◌, ◌≤◌, true, ◌==◌, nat_lt, if◌then◌else◌, ◌⊎◌, List, [], ◌∷◌, ◌++◌, length, filter}
use Rattle.std.specs.List.{list_any}

-- the number is one of these
abbrev pub Has : ℕ → List ℕ → Type 0
Has number numbers = list_any (λ n. n == number) numbers ≡ true

-- each number from 1 to `most` is one of these
abbrev pub HasEachUpTo : ℕ → List ℕ → Type 0
HasEachUpTo most numbers = (c : ℕ) → 0 < c → c ≤ most → Has c numbers

-- the second list if it is longer, and else the first
abbrev pub longer_of : {E : Type 0} → List E → List E → List E
longer_of one other = if nat_lt (length one) (length other) then other else one

module _ {E : Type 0} (caller : E → ℕ) where
  -- the entries of one caller, in the order in which the story has them
  abbrev pub entries_by : ℕ → List E → List E
  entries_by number story = filter (λ e. caller e == number) story

  -- the later story is the same, or has one more entry, of this caller
  abbrev pub AddsOneAtMost : ℕ → List E → List E → Type 0
  AddsOneAtMost number story later =
      (later ≡ story) ⊎ ((e : E) × (caller e ≡ number) × (later ≡ story ++ e ∷ []))

-- two lists with one element more than a third are the same only where the elements are: so a value
-- that stands for the one list that it has tells its last entry
pub same_end : {E : Type 0} (xs : List E) (e f : E) → xs ++ e ∷ [] ≡ xs ++ f ∷ [] → e ≡ f
same_end [] e f p = cc (p)
same_end (x ∷ xs) e f p = same_end xs e f (cc (p))
