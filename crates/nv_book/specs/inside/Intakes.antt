-- inside: what a call takes from a source, and which value it gives.
use Rattle.std.specs.Prelude.{◌≡◌, ◌⊎◌, ℕ, ◌+◌, ◌^◌, ◌<◌, ◌≤◌, Bool, true, false, ⊤, All, List, [], ◌∷◌, ◌++◌, length, take, Option, Some, None, Result, Ok, Err}
use Rattle.std.specs.Io.KnownBytes.{IsAtEnd}
use Rattle.nv_value.specs.Content.{Tree}
use Rattle.nv_value.specs.View.{content}
use Rattle.nv_value.specs.declared.value.Value.{Value}
use Rattle.nv_stream.specs.State.{State, empty_state, with_piece}
use Rattle.nv_book.specs.Books.{most_nested, most_value}
use Rattle.nv_book.specs.Reading.{IsReadOut, HasValues, HasGiven}
use Rattle.nv_book.specs.declared.faults.Unread.{Unread}
use Rattle.nv_book.specs.declared.faults.Unread.TheVariants.{NoMemory, ReadFault, Malformed}

-- how many bytes were taken from a source, and what is held of them
pub record Intaking : Type 0 where
  pub taken : ℕ
  pub stream : State

abbrev pub IsFreshIntake : Intaking → Type 0
IsFreshIntake x = (x.taken ≡ 0) × (x.stream ≡ empty_state most_nested most_value)

-- nothing more comes from a source from which so many bytes were taken
abbrev pub NoneComes : ℕ → Option (List ℕ) → Type 0
NoneComes taken left = IsAtEnd left ⊎ (2 ^ 62 ≤ taken)

-- one read: so many bytes came, at the front of a buffer, or none at the end
abbrev pub ReadsPiece : ℕ → List ℕ → List ℕ → Option (List ℕ) → Result ℕ Unread → Type 0
ReadsPiece taken buffer bytes left (Ok n) =
    (bytes ≡ take n buffer) × (n ≤ length buffer) × All (λ b. b < 256) bytes
    × (((0 < n) × (taken < 2 ^ 62)) ⊎ ((n ≡ 0) × NoneComes taken left))
ReadsPiece taken buffer bytes left (Err fault) = fault ≡ ReadFault

-- a piece came, and is kept
abbrev pub Fills : List ℕ → Option (List ℕ) → Result Bool Unread → Intaking → Intaking → Type 0
Fills bytes left (Ok true) old new =
    (0 < length bytes) × (old.taken < 2 ^ 62) × (new.taken ≡ old.taken + length bytes)
    × (new.stream ≡ with_piece old.stream bytes) × All (λ b. b < 256) bytes
Fills bytes left (Ok false) old new = (bytes ≡ []) × NoneComes old.taken left × (new ≡ old)
Fills bytes left (Err NoMemory) old new = ⊤
Fills bytes left (Err ReadFault) old new = ⊤
Fills bytes left (Err (Malformed n)) old new = ⊥

-- or isn't
abbrev pub Skips : List ℕ → Option (List ℕ) → Result Bool Unread → Intaking → Intaking → Type 0
Skips bytes left (Ok true) old new =
    (0 < length bytes) × (old.taken < 2 ^ 62) × (new.taken ≡ old.taken + length bytes)
Skips bytes left (Ok false) old new =
    (bytes ≡ []) × NoneComes old.taken left × (new.taken ≡ old.taken)
Skips bytes left (Err NoMemory) old new = ⊥
Skips bytes left (Err ReadFault) old new = ⊤
Skips bytes left (Err (Malformed n)) old new = ⊥

-- all that was left was read
abbrev pub IsDrained : List ℕ → Option (List ℕ) → Intaking → Type 0
IsDrained bytes left old = NoneComes (old.taken + length bytes) left

-- this place is told, and all that was left was read; or reading failed
abbrev pub TellsPlace : List ℕ → Option (List ℕ) → ℕ → Intaking → Unread → Type 0
TellsPlace bytes left place old NoMemory = ⊤
TellsPlace bytes left place old ReadFault = ⊤
TellsPlace bytes left place old (Malformed n) = (n ≡ place) × IsDrained bytes left old

-- all bytes of a source were read; these values stand before a place of them, and of a value that
-- follows there this is so
pub record StopsBehind (bytes : List ℕ) (left : Option (List ℕ)) (values : List Tree) (n : ℕ)
    (Next : Tree → Type 0) : Type 0 where
  pub read_out : IsReadOut left bytes
  pub behind : List ℕ
  pub stand : HasValues bytes values n behind
  pub next : (t : Tree) (at : ℕ) (rest : List ℕ) → HasValues bytes (values ++ t ∷ []) at rest
      → Next t

-- why no value is given behind these
abbrev pub StopsFor : List ℕ → Option (List ℕ) → List Tree → (Tree → Type 0) → Unread → Type 0
StopsFor bytes left values Next NoMemory = ⊤
StopsFor bytes left values Next ReadFault = ⊤
StopsFor bytes left values Next (Malformed n) = StopsBehind bytes left values n Next

abbrev pub NoValue : Tree → Type 0
NoValue t = ⊥

-- a piece more is held
abbrev pub GetsMore : {A : Type 0} → List ℕ → Option (List ℕ) → List Tree → Result A Unread
    → Intaking → Type 0
GetsMore bytes left values (Ok done) new = HasGiven bytes values new.taken new.stream
GetsMore bytes left values (Err fault) new = StopsFor bytes left values NoValue fault

-- one value more is given, or a piece more is held
abbrev pub GivesOne : List ℕ → Option (List ℕ) → List Tree → Result (Option Value) Unread → Intaking
    → Type 0
GivesOne bytes left values (Ok (Some v)) new =
    HasGiven bytes (values ++ content v ∷ []) new.taken new.stream
GivesOne bytes left values (Ok None) new = HasGiven bytes values new.taken new.stream
GivesOne bytes left values (Err fault) new = StopsFor bytes left values NoValue fault

-- one value more is given
abbrev pub TakesValue : List ℕ → Option (List ℕ) → List Tree → Result Value Unread → Intaking
    → Type 0
TakesValue bytes left values (Ok v) new =
    HasGiven bytes (values ++ content v ∷ []) new.taken new.stream
TakesValue bytes left values (Err fault) new = StopsFor bytes left values NoValue fault

-- whether these values are all
abbrev pub AreAll : List ℕ → Option (List ℕ) → List Tree → Result Bool Unread → Intaking → Type 0
AreAll bytes left values (Ok true) new =
    IsReadOut left bytes × HasValues bytes values new.stream.start [] × All (λ b. b < 256) bytes
AreAll bytes left values (Ok false) new =
    HasGiven bytes values new.taken new.stream × (0 < length new.stream.held)
AreAll bytes left values (Err fault) new = ⊤
