-- inside: what is written of each entry, one after another.
use Rattle.std.specs.Prelude.{◌≡◌, ℕ, ◌+◌, List, [], ◌∷◌, ◌++◌, length, map, take, Option}
use Rattle.std.specs.Io.KnownBytes.{append_known}
use Rattle.nv_value.specs.Content.{Tree, bin}
use Rattle.nv_painter.specs.Painters.{Painting}
use Rattle.nv_history.specs.Events.{Event, Entry}
use Rattle.nv_history.specs.Worlds.{fresh_world}
use Rattle.nv_world.specs.Worlds.{WorldRecord}
use Rattle.nv_core.specs.declared.start.Start.{Start}
use Rattle.nv_book.specs.Books.{Recorded, entries_of_records, output_pieces, entry_head, shortest_of_all, IsFitEntry}
use Rattle.nv_book.specs.Outputs.{AreOutputs, nobody_told, session_named, Plays, numbered_piece}
use Rattle.nv_book.specs.declared.form.Form.{Form}
use Rattle.nv_book.specs.declared.form.Form.TheVariants.{Book, Outputs}
use Rattle.nv_book.specs.declared.faults.BookFault.{BookFault}
use Rattle.nv_book.specs.declared.faults.BookFault.TheVariants.{NoMemory, WriteFault, Unfit}
use Rattle.nv_book.specs.inside.Playing.{IsPlayedTo, PlaysOne}

-- a piece of an output, by the number of its entry and its session
abbrev pub piece_tree : Form → ℕ → ℕ → List ℕ → Tree
piece_tree Book at s = bin
piece_tree Outputs at s = numbered_piece at s

-- what tells of an entry, where that is written
abbrev pub head_trees : Form → Entry → ℕ → List Tree
head_trees Book e count = entry_head e count ∷ []
head_trees Outputs e count = []

-- what is written of the entry of this number, and of entries from this number on
abbrev pub trees_of_record : Form → ℕ → Recorded → List Tree
trees_of_record form at r =
    head_trees form r.entry (length (output_pieces r.output))
    ++ map (piece_tree form at (session_named r.entry.event)) (output_pieces r.output)

abbrev pub trees_of_records : Form → ℕ → List Recorded → List Tree
trees_of_records form at [] = []
trees_of_records form at (r ∷ rs) = trees_of_record form at r ++ trees_of_records form (at + 1) rs

-- an entry was played, and all of it was written
pub record WritesOne (form : Form) (at : ℕ) (e : Entry) (old : WorldRecord) (ps : List Painting)
    (new : WorldRecord) (qs : List Painting) (before after : Option (List ℕ)) : Type 0 where
  pub output : List ℕ
  pub plays : PlaysOne old ps e.event output new qs
  pub written : after ≡ append_known before
      (shortest_of_all (trees_of_record form at (record { entry = e; output = output })))

-- it was played, and a part of it was written
pub record WritesCut (form : Form) (at : ℕ) (e : Entry) (old : WorldRecord) (ps : List Painting)
    (new : WorldRecord) (qs : List Painting) (before after : Option (List ℕ)) : Type 0 where
  pub output : List ℕ
  pub count : ℕ
  pub plays : PlaysOne old ps e.event output new qs
  pub written : after ≡ append_known before (take count
      (shortest_of_all (trees_of_record form at (record { entry = e; output = output }))))

-- what keeps an entry from being written
abbrev pub StopsOne : Form → ℕ → Entry → BookFault → WorldRecord → List Painting → WorldRecord
    → List Painting → Option (List ℕ) → Option (List ℕ) → Type 0
StopsOne form at e WriteFault old ps new qs before after =
    WritesCut form at e old ps new qs before after
StopsOne form at e NoMemory old ps new qs before after = after ≡ before
StopsOne form at e (Unfit n) old ps new qs before after =
    (n ≡ at) × (IsFitEntry e → ⊥) × (after ≡ before)

-- entries were played from a fresh world on, and what is written of them went out; or a prefix of
-- that did, of the first of them
pub record WentOut (start : Start) (form : Form) (history : List Entry)
    (before after : Option (List ℕ)) : Type 0 where
  pub records : List Recorded
  pub entries_are : entries_of_records records ≡ history
  pub outputs : AreOutputs start records
  pub written : after ≡ append_known before (shortest_of_all (trees_of_records form 0 records))

pub record WentOutInPart (start : Start) (form : Form) (history : List Entry)
    (before after : Option (List ℕ)) : Type 0 where
  pub records : List Recorded
  pub more : List Entry
  pub entries_are : history ≡ entries_of_records records ++ more
  pub outputs : AreOutputs start records
  pub count : ℕ
  pub written : after ≡ append_known before
      (take count (shortest_of_all (trees_of_records form 0 records)))

-- these entries were played from a fresh world on, and what was written of them is this
pub record HasWritten (start : Start) (form : Form) (done : List Entry) (k : WorldRecord)
    (ps : List Painting) (before after : Option (List ℕ)) : Type 0 where
  pub records : List Recorded
  pub entries_are : entries_of_records records ≡ done
  pub plays : Plays (fresh_world start.outbox start.limits) nobody_told records (IsPlayedTo k ps)
  pub written : after ≡ append_known before (shortest_of_all (trees_of_records form 0 records))
