-- What is written of a history.
use Rattle.std.specs.Prelude.{◌≡◌, ℕ, ◌+◌, List, [], ◌∷◌, ◌++◌, length, map, take, Option, Some, slice_get}
use Rattle.std.specs.Io.KnownBytes.{append_known}
use Rattle.nv_value.specs.Content.{Tree}
use Rattle.nv_history.specs.Events.{Entry}
use Rattle.nv_core.specs.declared.start.Start.{Start}
use Rattle.nv_book.specs.Books.{IsFitEntry, Recorded, entries_of_records, bytes_of_book, front_values, book_values, shortest_of_all}
use Rattle.nv_book.specs.Outputs.{AreOutputs, replay_values}

-- the book of a history went out, with the output of each entry
pub record WroteBook (start : Start) (history : List Entry) (before after : Option (List ℕ))
    : Type 0 where
  pub records : List Recorded
  pub entries_are : entries_of_records records ≡ history
  pub outputs : AreOutputs start records
  pub written : after ≡ append_known before (bytes_of_book start.outbox records)

-- the outputs of a history went out
pub record WroteReplay (start : Start) (history : List Entry) (before after : Option (List ℕ))
    : Type 0 where
  pub records : List Recorded
  pub entries_are : entries_of_records records ≡ history
  pub outputs : AreOutputs start records
  pub written : after ≡ append_known before (shortest_of_all (replay_values 0 records))

-- the values of a book of which entries may still be to come
abbrev pub values_so_far : ℕ → List Recorded → List Entry → List Tree
values_so_far outbox rs [] = book_values outbox rs
values_so_far outbox rs (e ∷ more) = front_values outbox rs

-- a prefix of a book of a history went out: of its first entries with the output of each, and of
-- the last value only where they are all
pub record WroteBookFront (start : Start) (history : List Entry) (before after : Option (List ℕ))
    : Type 0 where
  pub records : List Recorded
  pub more : List Entry
  pub entries_are : history ≡ entries_of_records records ++ more
  pub outputs : AreOutputs start records
  pub count : ℕ
  pub written : after ≡ append_known before
      (take count (shortest_of_all (values_so_far start.outbox records more)))

-- a prefix of the outputs of a history went out
pub record WroteReplayFront (start : Start) (history : List Entry) (before after : Option (List ℕ))
    : Type 0 where
  pub records : List Recorded
  pub more : List Entry
  pub entries_are : history ≡ entries_of_records records ++ more
  pub outputs : AreOutputs start records
  pub count : ℕ
  pub written : after ≡ append_known before
      (take count (shortest_of_all (replay_values 0 records)))

-- the entry of a history of this number can't be written in a book
abbrev pub IsUnfitAt : List Entry → ℕ → Type 0
IsUnfitAt history n = (e : Entry) × (slice_get history n ≡ Some e) × (IsFitEntry e → ⊥)
