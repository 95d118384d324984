-- Laws of books: bytes are one book at most, a history decides the outputs of its takes, and what
-- is written of a book is that book.
use Rattle.std.specs.Prelude.{◌≡◌, ℕ, ◌^◌, ◌<◌, ◌≤◌, ⊤, List, length, Option}
use Rattle.std.specs.List.{AllByRecursion}
use Rattle.std.specs.Io.KnownBytes.{append_known}
use Rattle.nv_msgpack.specs.Shortest.{AreInRange}
use Rattle.nv_rpc.specs.Calls.{Call, request, notice}
use Rattle.nv_history.specs.Events.{Event, open_session, request_of, take_of, close_of, Entry}
use Rattle.nv_core.specs.declared.start.Start.{Start}
use Rattle.nv_book.specs.Books.{Recorded, entries_of_records, bytes_of_book, IsFitEntry, IsOutputOf, HasSmallCall, AreFair, IsBook}
use Rattle.nv_book.specs.Outputs.{AreOutputs}
use Rattle.nv_book.specs.Writing.{WroteBook}
use Rattle.nv_world.specs.declared.world.TheConstants.{LEAST_OUTBOX, MOST_OUTBOX}

-- bytes are a book of one outbox and of one list of entries with their outputs
unfoldable pub BooksAreOne : Type 0
BooksAreOne =
    (bytes : List ℕ) (outbox other : ℕ) (rs others : List Recorded)
    → IsBook bytes outbox rs → IsBook bytes other others → (outbox ≡ other) × (rs ≡ others)

-- ---- outputs

-- the outputs that the entries of a history have are one alone
unfoldable pub OutputsAreOne : Type 0
OutputsAreOne =
    (start : Start) (rs others : List Recorded)
    → entries_of_records rs ≡ entries_of_records others
    → AreOutputs start rs → AreOutputs start others → rs ≡ others

-- takes alone have outputs
abbrev pub HaveOutputsByTakes : List Recorded → Type 0
HaveOutputsByTakes rs = AllByRecursion (λ r. IsOutputOf r.entry.event r.output) rs

unfoldable pub OutputsAreOfTakes : Type 0
OutputsAreOfTakes =
    (start : Start) (rs : List Recorded) → AreOutputs start rs → HaveOutputsByTakes rs

-- ---- what is written

-- What the types say of the parts of an entry: the number of a session has 64 bits, and each number
-- in an argument is in the range of its own type.
abbrev pub HasTypedArguments : Call → Type 0
HasTypedArguments (request msgid method params) = AreInRange params
HasTypedArguments (notice method params) = AreInRange params

abbrev pub HasTypedParts : Event → Type 0
HasTypedParts open_session = ⊤
HasTypedParts (request_of s call) = (s < 2 ^ 64) × HasTypedArguments call
HasTypedParts (take_of s) = s < 2 ^ 64
HasTypedParts (close_of s) = s < 2 ^ 64

-- an entry that is fit, and of which each number has its type: a greater one has no spelling
pub record IsSpellable (e : Entry) : Type 0 where
  pub fit : IsFitEntry e
  pub typed : HasTypedParts e.event

-- the bytes that are written of a book are that book, where they are fewer than 2 ^ 64: a number
-- above that, of entries or of pieces, has no spelling
unfoldable pub WrittenIsBook : Type 0
WrittenIsBook =
    (outbox : ℕ) (rs : List Recorded)
    → AreFair outbox rs → AllByRecursion IsSpellable (entries_of_records rs)
    → length (bytes_of_book outbox rs) < 2 ^ 64
    → IsBook (bytes_of_book outbox rs) outbox rs

-- all that the types say of an entry: its caller and its msgid have 32 bits besides
pub record IsTypedEntry (e : Entry) : Type 0 where
  pub caller : e.caller < 2 ^ 32
  pub call : HasSmallCall e.event
  pub parts : HasTypedParts e.event

-- a book of a history, with outputs that it has, went out behind what was there
pub record WentOutAsBook (start : Start) (history : List Entry) (before after : Option (List ℕ))
    : Type 0 where
  pub bytes : List ℕ
  pub records : List Recorded
  pub entries_are : entries_of_records records ≡ history
  pub outputs : AreOutputs start records
  pub is : IsBook bytes start.outbox records
  pub written : after ≡ append_known before bytes

-- where each entry is fit and has its types, what goes out as the book of a history is a book of it
unfoldable pub WroteIsBook : Type 0
WroteIsBook =
    (start : Start) (history : List Entry) (before after : Option (List ℕ))
    → LEAST_OUTBOX ≤ start.outbox → start.outbox ≤ MOST_OUTBOX
    → AllByRecursion IsTypedEntry history → AllByRecursion IsFitEntry history
    → (wrote : WroteBook start history before after)
    → length (bytes_of_book start.outbox wrote.records) < 2 ^ 64
    → WentOutAsBook start history before after
