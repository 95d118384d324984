-- Laws of the definitions, and of the ends of following.
use Rattle.std.specs.Prelude.{◌≡◌, ℕ, ⊤, ℤ, List, ◌++◌, Option, Some}
use Rattle.nv_value.specs.Content.{Tree}
use Rattle.nv_mirror.specs.Ends.{FollowsTo, IsReadToEnd}
use Rattle.nv_mirror.specs.Listings.{StopReason, messages_in, listing, stop_in}
use Rattle.nv_mirror.specs.declared.followed.Followed.{Followed}
use Rattle.nv_mirror.specs.declared.followed.Followed.TheVariants.{Ended, Detached, Malformed, Refused, Unfit, ReadFault, ServerFault, OutputFault, NoMemory}

-- What follows the value at which a client stops changes nothing.
abbrev pub StopsForGood : Type 0
StopsForGood =
    (buffer : ℤ) (stop : StopReason) (values later : List Tree) → stop_in buffer values ≡ Some stop
    → (stop_in buffer (values ++ later) ≡ Some stop)
    × (listing buffer (messages_in (values ++ later)) ≡ listing buffer (messages_in values))

-- More values list more behind what was listed.
abbrev pub ListingGrows : Type 0
ListingGrows =
    (buffer : ℤ) (values later : List Tree)
    → (more : List ℕ) × (listing buffer (messages_in (values ++ later))
    ≡ listing buffer (messages_in values) ++ more)

-- Following ended by what the server sent, and not by a device or for want of memory.
abbrev pub IsByBytes : Followed → Type 0
IsByBytes Ended = ⊤
IsByBytes Detached = ⊤
IsByBytes (Malformed flaw) = ⊤
IsByBytes (Refused words) = ⊤
IsByBytes (Unfit n) = ⊤
IsByBytes ReadFault = ⊥
IsByBytes ServerFault = ⊥
IsByBytes OutputFault = ⊥
IsByBytes NoMemory = ⊥

-- What was read comes to one such end alone, and to one listing: so each comes exactly where its
-- case of the definition holds.
abbrev pub EndsAreOne : Type 0
EndsAreOne =
    (buffer : ℤ) (left : Option (List ℕ)) (bytes listed others : List ℕ)
    (followed other : Followed) → IsByBytes followed → IsByBytes other
    → FollowsTo (IsReadToEnd left bytes) buffer followed bytes listed
    → FollowsTo (IsReadToEnd left bytes) buffer other bytes others
    → (followed ≡ other) × (listed ≡ others)
