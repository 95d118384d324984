-- How following a buffer ends: what was read and listed by then.
use Rattle.std.specs.Prelude.{◌≡◌, ◌⊎◌, ℕ, ◌^◌, ◌≤◌, ⊤, ℤ, List, [], ◌∷◌, ◌++◌, length, take, Option, Some, None}
use Rattle.std.specs.Io.KnownBytes.{append_known, IsAtEnd}
use Rattle.std.specs.List.{concat}
use Rattle.nv_value.specs.Content.{Tree}
use Rattle.nv_io.specs.declared.lanes.Flaw.{Flaw}
use Rattle.nv_io.specs.declared.lanes.Flaw.TheVariants.{Bad, TooDeep, TooLong, Inside, NoCall}
use Rattle.nv_stream.specs.Runs.{HasCut, HasFront}
use Rattle.nv_mirror.specs.Asking.{request_bytes}
use Rattle.nv_mirror.specs.Listings.{StopReason, buffer_detached, request_refused, unfit, strange, messages_in, listing, stop_in}
use Rattle.nv_mirror.specs.declared.followed.Followed.{Followed}
use Rattle.nv_mirror.specs.declared.followed.Followed.TheVariants.{Ended, Detached, Malformed, Refused, Unfit, ReadFault, ServerFault, OutputFault, NoMemory}

-- the greatest number of lists and maps one in another in a value
unfoldable pub most_levels : ℕ
most_levels = 64

-- the greatest number of bytes of a value
abbrev pub most_spelled : ℕ
most_spelled = 67108864

-- the bytes hold these values one after another, and then end so
abbrev pub HoldValues : List ℕ → List Tree → Option Flaw → Type 0
HoldValues = HasCut most_levels most_spelled

-- the bytes begin with these values, and the rest stands at this place
abbrev pub BeginWith : List ℕ → List Tree → ℕ → List ℕ → Type 0
BeginWith = HasFront most_levels most_spelled

-- the bytes hold values and then end so; the client stopped at none, and listed all
pub record ListsAll (buffer : ℤ) (end : Option Flaw) (bytes listed : List ℕ) : Type 0 where
  pub values : List Tree
  pub cut : HoldValues bytes values end
  pub goes_on : stop_in buffer values ≡ None
  pub lists : listed ≡ listing buffer (messages_in values)

-- the bytes begin with values at which the client stopped, and it listed all before
pub record StopsAtValue (buffer : ℤ) (stop : StopReason) (bytes listed : List ℕ) : Type 0 where
  pub values : List Tree
  pub place : ℕ
  pub rest : List ℕ
  pub front : BeginWith bytes values place rest
  pub stops : stop_in buffer values ≡ Some stop
  pub lists : listed ≡ listing buffer (messages_in values)

-- the bytes begin with values of whose listing a part from its front was listed
pub record ListsSome (buffer : ℤ) (bytes listed : List ℕ) : Type 0 where
  pub values : List Tree
  pub place : ℕ
  pub rest : List ℕ
  pub front : BeginWith bytes values place rest
  pub count : ℕ
  pub lists : listed ≡ take count (listing buffer (messages_in values))

-- a source was read to its end: nothing is left of it, where it tells that, or so many bytes were
-- taken that it counts as ended
abbrev pub IsReadToEnd : Option (List ℕ) → List ℕ → Type 0
IsReadToEnd left bytes = IsAtEnd left ⊎ (2 ^ 62 ≤ length bytes)

-- What following came to by the bytes that were read, where `over` says that no more are to come.
abbrev pub FollowsTo : Type 0 → ℤ → Followed → List ℕ → List ℕ → Type 0
FollowsTo over buffer Ended bytes listed = ListsAll buffer None bytes listed × over
FollowsTo over buffer Detached bytes listed = StopsAtValue buffer buffer_detached bytes listed
FollowsTo over buffer (Malformed (NoCall n)) bytes listed =
    StopsAtValue buffer (strange n) bytes listed
FollowsTo over buffer (Malformed (Inside n)) bytes listed =
    ListsAll buffer (Some (Inside n)) bytes listed × over
FollowsTo over buffer (Malformed (Bad n)) bytes listed =
    ListsAll buffer (Some (Bad n)) bytes listed
FollowsTo over buffer (Malformed (TooDeep n)) bytes listed =
    ListsAll buffer (Some (TooDeep n)) bytes listed
FollowsTo over buffer (Malformed (TooLong n)) bytes listed =
    ListsAll buffer (Some (TooLong n)) bytes listed
FollowsTo over buffer (Refused words) bytes listed =
    StopsAtValue buffer (request_refused words) bytes listed
FollowsTo over buffer (Unfit n) bytes listed = StopsAtValue buffer (unfit n) bytes listed
FollowsTo over buffer ReadFault bytes listed =
    ListsAll buffer None bytes listed
    ⊎ ((n : ℕ) × ListsAll buffer (Some (Inside n)) bytes listed)
FollowsTo over buffer ServerFault bytes listed = (bytes ≡ []) × (listed ≡ [])
FollowsTo over buffer OutputFault bytes listed = ListsSome buffer bytes listed
FollowsTo over buffer NoMemory bytes listed = ListsSome buffer bytes listed

-- Before the last read all was listed that the earlier ones gave, as where that read had failed.
abbrev pub ListsAtOnce : ℤ → List (List ℕ) → List ℕ → Type 0
ListsAtOnce buffer pieces listed =
    (pieces ≡ []) ⊎ ((earlier : List (List ℕ)) × (last first later : List ℕ)
    × (pieces ≡ earlier ++ last ∷ []) × (listed ≡ first ++ later)
    × FollowsTo ⊤ buffer ReadFault (concat earlier) first)

-- the server took the request, or a part of it from its front
abbrev pub TookSome : ℤ → Option (List ℕ) → Option (List ℕ) → Type 0
TookSome buffer before after =
    (count : ℕ) × (after ≡ append_known before (take count (request_bytes buffer)))

-- What the server took by the end of following.
abbrev pub ServerTook : ℤ → Followed → Option (List ℕ) → Option (List ℕ) → Type 0
ServerTook buffer ServerFault before after = TookSome buffer before after
ServerTook buffer NoMemory before after = TookSome buffer before after
ServerTook buffer _ before after = after ≡ append_known before (request_bytes buffer)
