-- How a book is read from a source, and what a replay of it comes to (MessagePack specification;
-- what a book is made of is an own rule).
use Rattle.std.specs.Prelude.{◌≡◌, ◌⊎◌, ℕ, ◌^◌, ◌<◌, ◌≤◌, ⊤, All, List, [], ◌∷◌, ◌++◌, length, Option, Some, None, IsSome, Result, Ok, Err}
use Rattle.std.specs.Io.KnownBytes.{IsAtEnd}
use Rattle.nv_value.specs.Content.{Tree}
use Rattle.nv_stream.specs.State.{State}
use Rattle.nv_stream.specs.Runs.{HasFront}
use Rattle.nv_model.specs.declared.parts.Limits.{Limits}
use Rattle.nv_painter.specs.Painters.{Painting}
use Rattle.nv_history.specs.Events.{Entry}
use Rattle.nv_history.specs.Worlds.{World, fresh_world, step}
use Rattle.nv_history.specs.Runs.{run}
use Rattle.nv_core.specs.Contents.{plain_entries}
use Rattle.nv_world.specs.Steps.{AreLastSplices}
use Rattle.nv_world.specs.Worlds.{WorldRecord}
use Rattle.nv_world.specs.declared.step.Step.{Step}
use Rattle.nv_core.specs.declared.start.Start.{Start}
use Rattle.nv_book.specs.Books.{Recorded, entries_of_records, front_values, book_values, most_nested, most_value, AreFair, IsBook}
use Rattle.nv_book.specs.Outputs.{nobody_told, Plays, AreOutputs, IsSessionOf}
use Rattle.nv_book.specs.Writing.{IsUnfitAt}
use Rattle.nv_book.specs.inside.Playing.{IsPlayedTo}
use Rattle.nv_book.specs.declared.faults.Unread.{Unread}
use Rattle.nv_book.specs.declared.faults.Unread.TheVariants.{NoMemory, ReadFault, Malformed}
use Rattle.nv_book.specs.declared.replay.Book.{Book}

-- a source was read out: nothing is left of it, where it tells that, or so many bytes were taken
-- that it counts as ended
abbrev pub IsReadOut : Option (List ℕ) → List ℕ → Type 0
IsReadOut left bytes = IsAtEnd left ⊎ (2 ^ 62 ≤ length bytes)

-- ---- bytes that are no book

-- each entry enters, one after another, from a fresh world on
abbrev pub AllEnter : ℕ → Limits → List Recorded → Type 0
AllEnter outbox limits rs = IsSome (run outbox limits (entries_of_records rs))

-- within these limits bytes are no book, whatever its outbox and its entries
abbrev pub IsNoBook : Limits → List ℕ → Type 0
IsNoBook limits bytes =
    (outbox : ℕ) (rs : List Recorded) → IsBook bytes outbox rs → AllEnter outbox limits rs → ⊥

-- with these more behind them, values are those of a book within these limits
pub record AreOfBook (limits : Limits) (values more : List Tree) : Type 0 where
  pub outbox : ℕ
  pub records : List Recorded
  pub fair : AreFair outbox records
  pub enter : AllEnter outbox limits records
  pub values_are : book_values outbox records ≡ values ++ more

-- values stand one after another at the front of bytes, up to this place, and this is behind them
abbrev pub HasValues : List ℕ → List Tree → ℕ → List ℕ → Type 0
HasValues bytes values at behind = HasFront most_nested most_value bytes values at behind

-- The place by which bytes are no book: the values before it are the first of a book; they aren't
-- all of one, unless something stands behind them; and no value follows there with which they are
-- the first of one.
pub record IsWrongAt (limits : Limits) (bytes : List ℕ) (n : ℕ) : Type 0 where
  pub before : List Tree
  pub behind : List ℕ
  pub stand : HasValues bytes before n behind
  pub first : (more : List Tree) × AreOfBook limits before more
  pub short : behind ≡ [] → AreOfBook limits before [] → ⊥
  pub wrong : (t : Tree) (more : List Tree) (at : ℕ) (rest : List ℕ)
      → HasValues bytes (before ++ t ∷ []) at rest → AreOfBook limits before (t ∷ more) → ⊥

-- all bytes of a source were read, and they are no book, by the value at this place
pub record IsMalformed (limits : Limits) (bytes : List ℕ) (left : Option (List ℕ)) (n : ℕ)
    : Type 0 where
  pub read_out : IsReadOut left bytes
  pub no_book : IsNoBook limits bytes
  pub place : IsWrongAt limits bytes n

-- why the bytes that were read of a source aren't those of a book
abbrev pub IsWhyUnread : Limits → List ℕ → Option (List ℕ) → Unread → Type 0
IsWhyUnread limits bytes left NoMemory = ⊤
IsWhyUnread limits bytes left ReadFault = ⊤
IsWhyUnread limits bytes left (Malformed n) = IsMalformed limits bytes left n

-- ---- replays

-- where a replay stands: what its world begins with, how many bytes were taken from the source, and
-- what is held of them; its world, what its clients were told, and the output of the last entry, as
-- the book has it and as it was given
pub record Replaying : Type 0 where
  pub start : Start
  pub taken : ℕ
  pub stream : State
  pub world : WorldRecord
  pub paintings : List Painting
  pub recorded : List ℕ
  pub output : List ℕ

-- entries were played from a fresh world on, each with the output that it gives; a world and what
-- its clients were told are what they came to
pub record ArePlayed (start : Start) (records played : List Recorded) (k : WorldRecord)
    (ps : List Painting) : Type 0 where
  pub same : entries_of_records played ≡ entries_of_records records
  pub plays : Plays (fresh_world start.outbox start.limits) nobody_told played (IsPlayedTo k ps)
  pub history : plain_entries k.history ≡ entries_of_records records

-- what is held of bytes, of which these values were given
pub record HasGiven (bytes : List ℕ) (values : List Tree) (taken : ℕ) (s : State) : Type 0 where
  pub stand : HasValues bytes values s.start s.held
  pub all : taken ≡ length bytes
  pub small : All (λ b. b < 256) bytes
  pub depth_is : s.depth ≡ most_nested
  pub most_is : s.most ≡ most_value
  pub no_flaw : s.flaw ≡ None

-- of these bytes the first value of a book and these entries were read, each with the output that
-- the book has, and they were played
pub record IsReplaying (bytes : List ℕ) (records played : List Recorded) (r : Replaying)
    : Type 0 where
  pub read : HasGiven bytes (front_values r.start.outbox records) r.taken r.stream
  pub fair : AreFair r.start.outbox records
  pub played_are : ArePlayed r.start records played r.world r.paintings

-- the step of the entry behind these, which was played with this output
pub record IsStepOf (start : Start) (records : List Recorded) (given : Recorded) (k : WorldRecord)
    (step_given : Step) : Type 0 where
  pub at_is : step_given.at ≡ length records
  pub caller_is : step_given.caller ≡ given.entry.caller
  pub session_is : (w : World) → run start.outbox start.limits (entries_of_records records) ≡ Some w
      → IsSessionOf given.entry.event (step w given.entry.event) step_given.session
  pub sent_is : step_given.sent ≡ given.output
  pub splices_are : AreLastSplices k.capacity k.limits k.history step_given.splices.items

-- one entry more was read and played
pub record ReplaysOne (bytes : List ℕ) (records played : List Recorded) (given_step : Step)
    (new : Replaying) : Type 0 where
  pub entry : Recorded
  pub given : Recorded
  pub goes : IsReplaying bytes (records ++ entry ∷ []) (played ++ given ∷ []) new
  pub recorded_is : new.recorded ≡ entry.output
  pub output_is : new.output ≡ given.output
  pub step_is : IsStepOf new.start records given new.world given_step

-- no entry of a history is such that a book can't have it
abbrev pub AreWritable : List Entry → Type 0
AreWritable history = (n : ℕ) → IsUnfitAt history n → ⊥

-- all bytes of a source were read, they are a book, and its entries were played
pub record IsReplayed (bytes : List ℕ) (left : Option (List ℕ)) (records played : List Recorded)
    (new : Replaying) : Type 0 where
  pub read_out : IsReadOut left bytes
  pub book : IsBook bytes new.start.outbox records
  pub enter : AllEnter new.start.outbox new.start.limits records
  pub fit : AreWritable (entries_of_records records)
  pub played_are : ArePlayed new.start records played new.world new.paintings
  pub outputs : AreOutputs new.start played

-- what a replay comes to that goes on: one entry more; the end of the book; or why there is none
abbrev pub Replays : List ℕ → Option (List ℕ) → List Recorded → List Recorded
    → Result (Option Step) Unread → Replaying → Type 0
Replays bytes left records played (Ok (Some given_step)) new =
    ReplaysOne bytes records played given_step new
Replays bytes left records played (Ok None) new = IsReplayed bytes left records played new
Replays bytes left records played (Err fault) new = IsWhyUnread new.start.limits bytes left fault

-- what the beginning of a replay comes to
abbrev pub BeginsReplay : Limits → List ℕ → Option (List ℕ) → Result Replaying Unread → Type 0
BeginsReplay limits bytes left (Ok r) = (r.start.limits ≡ limits) × IsReplaying bytes [] [] r
BeginsReplay limits bytes left (Err fault) = IsWhyUnread limits bytes left fault

-- ---- all of a book

-- all bytes of a source were read, and they are this book
pub record IsRead (limits : Limits) (bytes : List ℕ) (left : Option (List ℕ)) (book : Book)
    : Type 0 where
  pub records : List Recorded
  pub limits_are : book.start.limits ≡ limits
  pub read_out : IsReadOut left bytes
  pub is : IsBook bytes book.start.outbox records
  pub history_is : plain_entries book.history.entries ≡ entries_of_records records
  pub runs : IsSome (run book.start.outbox limits (plain_entries book.history.entries))
  pub fit : AreWritable (plain_entries book.history.entries)

abbrev pub ReadsBook : Limits → List ℕ → Option (List ℕ) → Result Book Unread → Type 0
ReadsBook limits bytes left (Ok book) = IsRead limits bytes left book
ReadsBook limits bytes left (Err fault) = IsWhyUnread limits bytes left fault
