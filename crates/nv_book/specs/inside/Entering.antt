-- inside: an entry that is read, and then played.
use Rattle.std.specs.Prelude.{◌≡◌, ℕ, Bool, true, false, ⊤, List, [], ◌∷◌, ◌++◌, Option, Some, None, Result, Ok, Err}
use Rattle.nv_value.specs.Content.{Tree}
use Rattle.nv_history.specs.Worlds.{World, step, world_made}
use Rattle.nv_core.specs.Contents.{plain_entry, plain_event}
use Rattle.nv_world.specs.Steps.{AreLastSplices}
use Rattle.nv_world.specs.Worlds.{WorldRecord, model_of, with_entry}
use Rattle.nv_core.specs.declared.entry.Entry.{Entry}
use Rattle.nv_world.specs.declared.step.Step.{Step}
use Rattle.nv_core.specs.declared.start.Start.{Start}
use Rattle.nv_book.specs.Books.{Recorded, front_values, AreFair}
use Rattle.nv_book.specs.Headings.{heading_in}
use Rattle.nv_book.specs.Outputs.{IsSessionOf}
use Rattle.nv_book.specs.Reading.{HasGiven, ArePlayed, Replaying, IsReplaying, ReplaysOne, IsReplayed, IsWhyUnread}
use Rattle.nv_book.specs.inside.Heads.{plain_heading}
use Rattle.nv_book.specs.inside.Intakes.{Intaking, TellsPlace}
use Rattle.nv_book.specs.inside.Parts.{IsPlaceBehind}
use Rattle.nv_book.specs.inside.Playing.{PlaysOne}
use Rattle.nv_book.specs.declared.faults.Unread.{Unread}
use Rattle.nv_book.specs.declared.faults.Unread.TheVariants.{NoMemory, ReadFault, Malformed}
use Rattle.nv_book.specs.declared.headings.Heading.{Heading}
use Rattle.nv_book.specs.declared.player.Player.{Player}

-- where a replay stands, by its parts
abbrev pub replaying : Start → Intaking → Player → List ℕ → Replaying
replaying start x player recorded = record {
  start = start;
  taken = x.taken;
  stream = x.stream;
  world = player.world;
  paintings = player.painters.items;
  recorded = recorded;
  output = player.output.items;
}

-- an event doesn't enter a world
abbrev pub IsNotEntering : WorldRecord → Entry → Type 0
IsNotEntering k entry =
    (w : World) → model_of k ≡ Some w → world_made (step w (plain_event entry.event)) ≡ None

-- an entry was played
pub record HasPlayed (entry : Entry) (session : ℕ) (old new : Player) : Type 0 where
  pub world : new.world ≡ with_entry old.world entry
  pub plays : PlaysOne old.world old.painters.items (plain_event entry.event) new.output.items
      new.world new.painters.items
  pub session_is : (w : World) → model_of old.world ≡ Some w
      → IsSessionOf (plain_event entry.event) (step w (plain_event entry.event)) session

abbrev pub PlaysEntry : List ℕ → Option (List ℕ) → ℕ → Entry → Result ℕ Unread → Intaking
    → Intaking → Player → Player → Type 0
PlaysEntry bytes left place entry (Ok session) x y old new =
    (bytes ≡ []) × (y ≡ x) × HasPlayed entry session old new
PlaysEntry bytes left place entry (Err NoMemory) x y old new = ⊤
PlaysEntry bytes left place entry (Err ReadFault) x y old new = ⊤
PlaysEntry bytes left place entry (Err (Malformed n)) x y old new =
    TellsPlace bytes left place x (Malformed n) × IsNotEntering old.world entry

-- a step of a player
pub record IsStepMade (at caller session : ℕ) (player : Player) (made : Step) : Type 0 where
  pub at_is : made.at ≡ at
  pub caller_is : made.caller ≡ caller
  pub session_is : made.session ≡ session
  pub sent_is : made.sent ≡ player.output.items
  pub splices_are : AreLastSplices player.world.capacity player.world.limits player.world.history
      made.splices.items

-- the value of an entry was read behind these records, which were played
pub record IsEntering (start : Start) (bytes : List ℕ) (records played : List Recorded)
    (place : ℕ) (h : Heading) (x : Intaking) (player : Player) : Type 0 where
  pub fair : AreFair start.outbox records
  pub played_are : ArePlayed start records played player.world player.painters.items
  pub here : IsPlaceBehind bytes (front_values start.outbox records) place
  pub t : Tree
  pub given : HasGiven bytes (front_values start.outbox records ++ t ∷ []) x.taken x.stream
  pub tells : heading_in t ≡ Some (plain_heading h)

abbrev pub EntersOne : Start → List ℕ → Option (List ℕ) → List Recorded → List Recorded
    → Result Step Unread → Intaking → Player → List ℕ → Type 0
EntersOne start bytes left records played (Ok given_step) x player recorded =
    ReplaysOne bytes records played given_step (replaying start x player recorded)
EntersOne start bytes left records played (Err fault) x player recorded =
    IsWhyUnread start.limits bytes left fault

-- whether there is a step
abbrev pub is_there : Option Step → Bool
is_there None = false
is_there (Some made) = true

-- a replay went on by one entry, or came to the end of its book
abbrev pub Advances : List ℕ → Option (List ℕ) → Result Bool Unread → Replaying → Type 0
Advances bytes left (Ok true) new =
    (records played : List Recorded) × IsReplaying bytes records played new
Advances bytes left (Ok false) new =
    (records played : List Recorded) × IsReplayed bytes left records played new
Advances bytes left (Err fault) new = IsWhyUnread new.start.limits bytes left fault
