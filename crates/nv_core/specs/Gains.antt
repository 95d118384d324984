-- What an event makes of a core (own rule).
use Rattle.std.specs.Prelude.{◌≡◌, ℕ, Bool, true, false, List, Some, Result, Ok, Err}
use Rattle.nv_turn.specs.Story.{AddsOneAtMost}
use Rattle.nv_history.specs.Worlds.{World}
use Rattle.nv_core.specs.Contents.{plain_entries}
use Rattle.nv_core.specs.Starts.{world_of_run}
use Rattle.nv_core.specs.Visits.{Visit}
use Rattle.nv_core.specs.declared.effect.Effect.{Effect}
use Rattle.nv_core.specs.declared.effect.Stop.{Stop}
use Rattle.nv_core.specs.declared.effect.Stop.TheVariants.{NoMemory, Stranger, Gone, Held}
use Rattle.nv_core.specs.declared.entry.Entry.{Entry}
use Rattle.nv_core.specs.declared.start.Start.{Start}

-- the number of the caller of an entry
abbrev pub caller_of : Entry → ℕ
caller_of e = e.caller

-- somebody of this number who found these entries, and left those
abbrev pub visit_of : Start → ℕ → List Entry → List Entry → Visit
visit_of start number found later = record {
  start = Some start;
  number = number;
  found = plain_entries found;
  after = plain_entries later;
}

-- entries that a core stands for later: those that were found, or one of this number more, and this
-- came of it
pub record StandsLater {C : Type 0} (stands : C → List Entry → Type 0) (start : Start) (new : C)
    (number : ℕ) (found : List Entry) (Comes : Visit → Type 0) : Type 0 where
  pub later : List Entry
  pub adds : AddsOneAtMost caller_of number found later
  pub stands_new : stands new later
  pub comes : Comes (visit_of start number found later)

-- a core goes on from each list of entries that it stood for, and begins as before
pub record GainsIn {C : Type 0} (stands : C → List Entry → Type 0) (start : C → Start) (old new : C)
    (number : ℕ) (Comes : Visit → Type 0) : Type 0 where
  pub begins : start new ≡ start old
  pub after : (found : List Entry) → stands old found
      → StandsLater stands (start old) new number found Comes

-- this is so of the world after each list of entries that a core stands for
abbrev pub InEachStory : {C : Type 0} → (C → List Entry → Type 0) → (C → Start) → C
    → (World → Type 0) → Type 0
InEachStory stands start core P =
    (story : List Entry) (w : World) → stands core story
    → world_of_run (Some (start core)) (plain_entries story) ≡ Some w → P w

-- whether memory was wanting
abbrev pub is_want : Result Effect Stop → Bool
is_want (Ok effect) = false
is_want (Err NoMemory) = true
is_want (Err (Stranger s)) = false
is_want (Err (Gone entry)) = false
is_want (Err (Held n)) = false

-- a core is spent just where memory was wanting, and stays so
pub record Spends (before now : Bool) (result : Result Effect Stop) : Type 0 where
  pub now_is : now ≡ is_want result
  pub stays : before ≡ true → is_want result ≡ true
