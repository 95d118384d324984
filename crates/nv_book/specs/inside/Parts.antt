-- inside: the parts of a book, as they are read.
use Rattle.std.specs.Prelude.{◌≡◌, ◌⊎◌, ℕ, ◌<◌, ⊤, All, List, [], ◌∷◌, ◌++◌, length, Option, Some, None, Result, Ok, Err}
use Rattle.nv_value.specs.Content.{Tree}
use Rattle.nv_core.specs.Contents.{plain_event}
use Rattle.nv_core.specs.Bounds.{IsLightEvent}
use Rattle.nv_book.specs.Headings.{heading_in, entry_count_in, outbox_in}
use Rattle.nv_book.specs.Reading.{IsReadOut, HasValues, HasGiven}
use Rattle.nv_book.specs.inside.Heads.{plain_heading}
use Rattle.nv_book.specs.inside.Intakes.{Intaking, StopsBehind, StopsFor}
use Rattle.nv_book.specs.declared.faults.Unread.{Unread}
use Rattle.nv_book.specs.declared.faults.Unread.TheVariants.{NoMemory, ReadFault, Malformed}
use Rattle.nv_book.specs.declared.parts.Part.{Part}
use Rattle.nv_book.specs.declared.parts.Part.TheVariants.{Entry as AnEntry, End as TheEnd}

-- a value is this part, or none
abbrev pub IsPart : Tree → Part → Type 0
IsPart t (AnEntry h) = heading_in t ≡ Some (plain_heading h)
IsPart t (TheEnd count) = entry_count_in t ≡ Some count

abbrev pub IsNoPart : Tree → Type 0
IsNoPart t = (heading_in t ≡ None) × (entry_count_in t ≡ None)

abbrev pub IsPartIfAny : Tree → Option Part → Type 0
IsPartIfAny t None = IsNoPart t
IsPartIfAny t (Some part) = IsPart t part

-- the event of an entry is light
abbrev pub HasLightPart : Option Part → Type 0
HasLightPart None = ⊤
HasLightPart (Some (AnEntry h)) = IsLightEvent (plain_event h.entry.event)
HasLightPart (Some (TheEnd count)) = ⊤

-- a part was read
pub record HasPart (bytes : List ℕ) (values : List Tree) (part : Part) (x : Intaking)
    : Type 0 where
  pub t : Tree
  pub given : HasGiven bytes (values ++ t ∷ []) x.taken x.stream
  pub is : IsPart t part

abbrev pub GetsPart : List ℕ → Option (List ℕ) → List Tree → Result Part Unread → Intaking
    → Type 0
GetsPart bytes left values (Ok part) x = HasPart bytes values part x
GetsPart bytes left values (Err fault) x = StopsFor bytes left values IsNoPart fault

-- the first value was read
pub record HasFirst (bytes : List ℕ) (values : List Tree) (outbox : ℕ) (x : Intaking)
    : Type 0 where
  pub t : Tree
  pub given : HasGiven bytes (values ++ t ∷ []) x.taken x.stream
  pub is : outbox_in t ≡ Some outbox

abbrev pub IsNoFirst : Tree → Type 0
IsNoFirst t = outbox_in t ≡ None

abbrev pub GetsFirst : List ℕ → Option (List ℕ) → List Tree → Result ℕ Unread → Intaking → Type 0
GetsFirst bytes left values (Ok outbox) x = HasFirst bytes values outbox x
GetsFirst bytes left values (Err fault) x = StopsFor bytes left values IsNoFirst fault

-- a place behind values
abbrev pub IsPlaceBehind : List ℕ → List Tree → ℕ → Type 0
IsPlaceBehind bytes values n = (behind : List ℕ) × HasValues bytes values n behind

-- the end tells of another number of entries
pub record EndsWrong (bytes : List ℕ) (left : Option (List ℕ)) (values : List Tree) (end : Tree)
    (told entries n : ℕ) : Type 0 where
  pub other : told ≡ entries → ⊥
  pub stops : StopsBehind bytes left values n (λ t. t ≡ end)

-- something stands behind the end
pub record EndsEarly (bytes : List ℕ) (left : Option (List ℕ)) (values : List Tree) (n : ℕ)
    : Type 0 where
  pub read_out : IsReadOut left bytes
  pub behind : List ℕ
  pub some : 0 < length behind
  pub stand : HasValues bytes values n behind

abbrev pub StopsAtEnd : List ℕ → Option (List ℕ) → List Tree → Tree → ℕ → ℕ → Unread → Type 0
StopsAtEnd bytes left values end told entries NoMemory = ⊤
StopsAtEnd bytes left values end told entries ReadFault = ⊤
StopsAtEnd bytes left values end told entries (Malformed n) =
    EndsWrong bytes left values end told entries n
    ⊎ ((told ≡ entries) × EndsEarly bytes left (values ++ end ∷ []) n)

-- the end was read
pub record HasEndValue (bytes : List ℕ) (left : Option (List ℕ)) (values : List Tree)
    (told entries : ℕ) : Type 0 where
  pub same : told ≡ entries
  pub read_out : IsReadOut left bytes
  pub place : ℕ
  pub stand : HasValues bytes values place []
  pub small : All (λ b. b < 256) bytes

abbrev pub EndsBook : {A : Type 0} → List ℕ → Option (List ℕ) → List Tree → Tree → ℕ → ℕ
    → Result A Unread → Type 0
EndsBook bytes left values end told entries (Ok done) =
    HasEndValue bytes left (values ++ end ∷ []) told entries
EndsBook bytes left values end told entries (Err fault) =
    StopsAtEnd bytes left values end told entries fault
