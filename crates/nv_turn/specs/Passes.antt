-- What contracts see of a turn, of a pass to it and of the value while it is held. (Own rules.)
use Rattle.std.specs.Prelude.{◌≡◌, ◌≢◌, ℕ, [], ◌∷◌, ◌++◌, List, Option, map}
use Rattle.std.specs.List.{range_with_len}
use mathlib.Core.List.{IsPrefix}
use Rattle.atomic_table.specs.Seated.{TableId}
use Rattle.nv_turn.specs.Story.{Has, entries_by}

-- which turn it is
abbrev pub TurnId : Type 0
TurnId = TableId

-- a turn, and with how many passes it was made
pub record TurnState : Type 0 where
  pub turn : TurnId
  pub passes : ℕ

-- a pass: its turn, its number, the numbers of all passes that were joined into it, the beginning
-- of the story that it has seen, and the start of the value
pub record PassState (E D : Type 0) : Type 0 where
  pub turn : TurnId
  pub number : ℕ
  pub numbers : List ℕ
  pub seen : List E
  pub start : Option D

-- the value behind a turn, while a pass holds it
pub record HeldState (T E D : Type 0) : Type 0 where
  pub value : T
  pub pass : PassState E D

module _ {E D : Type 0} where
  -- all of the two passes but what they have seen is the same
  pub record IsSamePass (p q : PassState E D) : Type 0 where
    pub turn : q.turn ≡ p.turn
    pub number : q.number ≡ p.number
    pub numbers : q.numbers ≡ p.numbers
    pub start : q.start ≡ p.start

  -- the second pass has seen what the first has, and perhaps more, but no more entries of the first
  -- one's numbers
  pub record SeesMore (caller : E → ℕ) (p q : PassState E D) : Type 0 where
    pub begins : IsPrefix p.seen q.seen
    pub own_entries : (c : ℕ) → Has c p.numbers
        → entries_by caller c q.seen ≡ entries_by caller c p.seen

  -- the second pass is the first, with these entries of its own number added, and none of the other
  -- numbers that were joined into it
  pub record Gains (caller : E → ℕ) (p q : PassState E D) (entries : List E) : Type 0 where
    pub same : IsSamePass p q
    pub begins : IsPrefix p.seen q.seen
    pub gained : entries_by caller p.number q.seen ≡ entries_by caller p.number p.seen ++ entries
    pub others : (c : ℕ) → Has c p.numbers → c ≢ p.number
        → entries_by caller c q.seen ≡ entries_by caller c p.seen

  -- the pass with this number, as it was made
  abbrev pub first_pass : TurnId → Option D → ℕ → PassState E D
  first_pass turn start n =
      record { turn = turn; number = n; numbers = n ∷ []; seen = []; start = start }

  -- the passes with the numbers from 1 to n, as they were made
  unfoldable pub first_passes : TurnId → Option D → ℕ → List (PassState E D)
  first_passes turn start n = map (first_pass turn start) (range_with_len 1 n)
