-- An entry of a book that was read and is yet to be played, and what its playing comes to.
use Rattle.std.specs.Prelude.{◌≡◌, ℕ, false, List, [], ◌∷◌, ◌++◌, length, Option, Some, None, IsSome, Result, Ok, Err}
use Rattle.nv_value.specs.Content.{Tree}
use Rattle.nv_world.specs.Steps.{AreLastSplices}
use Rattle.nv_world.specs.Worlds.{WorldRecord, model_of, with_entry}
use Rattle.nv_core.specs.declared.entry.Entry.{Entry}
use Rattle.nv_world.specs.declared.step.Step.{Step}
use Rattle.nv_book.specs.Books.{Recorded, front_values, AreFair}
use Rattle.nv_book.specs.Headings.{heading_in}
use Rattle.nv_book.specs.Reading.{HasGiven, ArePlayed, Replaying, ReplaysOne, IsReplayed, IsWhyUnread}
use Rattle.nv_book.specs.inside.Heads.{plain_heading}
use Rattle.nv_book.specs.inside.Parts.{IsPlaceBehind}
use Rattle.nv_book.specs.declared.faults.Unread.{Unread}
use Rattle.nv_book.specs.declared.replay.Upcoming.{Upcoming}

-- the value of an entry was read behind these records, which were played
pub record IsUpcoming (bytes : List ℕ) (records played : List Recorded) (u : Upcoming)
    (r : Replaying) : Type 0 where
  pub fair : AreFair r.start.outbox records
  pub played_are : ArePlayed r.start records played r.world r.paintings
  pub here : IsPlaceBehind bytes (front_values r.start.outbox records) u.place
  pub t : Tree
  pub given : HasGiven bytes (front_values r.start.outbox records ++ t ∷ []) r.taken r.stream
  pub tells : heading_in t ≡ Some (plain_heading u.heading)

-- what the reading of the next entry comes to: it; the end of the book; or why there is none
abbrev pub ReadsNext : List ℕ → Option (List ℕ) → List Recorded → List Recorded
    → Result (Option Upcoming) Unread → Replaying → Type 0
ReadsNext bytes left records played (Ok (Some u)) new = IsUpcoming bytes records played u new
ReadsNext bytes left records played (Ok None) new = IsReplayed bytes left records played new
ReadsNext bytes left records played (Err fault) new = IsWhyUnread new.start.limits bytes left fault

-- what its playing comes to: one entry more; or why there is none
abbrev pub PlaysNext : List ℕ → Option (List ℕ) → List Recorded → List Recorded
    → Result Step Unread → Replaying → Type 0
PlaysNext bytes left records played (Ok given_step) new =
    ReplaysOne bytes records played given_step new
PlaysNext bytes left records played (Err fault) new = IsWhyUnread new.start.limits bytes left fault

-- an entry entered a world that isn't spent, and this is its step
pub record HasEntered (entry : Entry) (old new : WorldRecord) (made : Step) : Type 0 where
  pub world : new ≡ with_entry old entry
  pub known : old.spent ≡ false
  pub number : made.at ≡ length old.history
  pub splices : AreLastSplices new.capacity new.limits new.history made.splices.items
  pub runs : IsSome (model_of new)
