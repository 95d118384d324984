-- inside: what is counted and compared while a history is gone over.
use Rattle.std.specs.Prelude.{◌≡◌, ℕ, ◌+◌, List, [], ◌∷◌, ◌++◌, length, bytes_eq, Option, Some, None, Result, Ok, Err, if◌then◌else◌}
use Rattle.nv_book.specs.Books.{Recorded, entries_of_records}
use Rattle.nv_book.specs.Reading.{Replaying, IsReplaying, IsReplayed, IsStepOf, IsWhyUnread}
use Rattle.nv_book.specs.Upcoming.{IsUpcoming}
use Rattle.nv_book.specs.declared.faults.Unread.{Unread}
use Rattle.nv_book.specs.declared.replay.Upcoming.{Upcoming}
use Rattle.nv_world.specs.declared.step.Step.{Step}
use Rattle.nv_watch.specs.Verdicts.{Sight, sight}
use Rattle.nv_replay.specs.Comparing.{first_difference}
use Rattle.nv_replay.specs.Sights.{IsSight, AreSights}
use Rattle.nv_replay.specs.Summary.{bytes_of_outputs, most_counted}
use Rattle.nv_replay.specs.declared.tallying.Tally.{Tally}

-- the first difference, once an entry of this number has this output, in the book and as it is
-- given
abbrev pub difference_with : Option ℕ → ℕ → List ℕ → List ℕ → Option ℕ
difference_with (Some n) at recorded given = Some n
difference_with None at recorded given = if bytes_eq recorded given then None else Some at

-- a tally once an entry more was looked at
abbrev pub tally_with : Tally → ℕ → List ℕ → List ℕ → Tally
tally_with t at recorded given = record {
  bytes = most_counted (t.bytes + length given);
  differs = difference_with t.differs at recorded given;
}

-- what was counted of entries with their outputs, beside those of a book
pub record IsTallyOf (records played : List Recorded) (t : Tally) : Type 0 where
  pub bytes_are : t.bytes ≡ most_counted (bytes_of_outputs played)
  pub differs_is : t.differs ≡ first_difference 0 records played

-- a replay stands behind these entries, which were counted and seen
pub record IsGoingOver (bytes : List ℕ) (records played : List Recorded) (seen : List Sight)
    (t : Tally) (r : Replaying) : Type 0 where
  pub replaying : IsReplaying bytes records played r
  pub tally_is : IsTallyOf records played t
  pub sights : AreSights r.start [] played seen

-- the same, and the next entry was read
pub record IsComing (bytes : List ℕ) (records played : List Recorded) (seen : List Sight)
    (u : Upcoming) (t : Tally) (r : Replaying) : Type 0 where
  pub upcoming : IsUpcoming bytes records played u r
  pub tally_is : IsTallyOf records played t
  pub sights : AreSights r.start [] played seen

-- one entry more
pub record GoesOnOver (bytes : List ℕ) (records played : List Recorded) (seen : List Sight)
    (given_step : Step) (t : Tally) (r : Replaying) : Type 0 where
  pub entry : Recorded
  pub given : Recorded
  pub goes : IsGoingOver bytes (records ++ entry ∷ []) (played ++ given ∷ [])
      (seen ++ sight r.world given_step ∷ []) t r

-- all of the book was gone over
pub record IsGoneOver (bytes : List ℕ) (left : Option (List ℕ)) (seen : List Sight) (t : Tally)
    (r : Replaying) : Type 0 where
  pub records : List Recorded
  pub played : List Recorded
  pub replayed : IsReplayed bytes left records played r
  pub tally_is : IsTallyOf records played t
  pub sights : AreSights r.start [] played seen

-- what comes of the next entry
abbrev pub GoesOver : List ℕ → Option (List ℕ) → List Recorded → List Recorded → List Sight
    → Result Step Unread → Tally → Replaying → Type 0
GoesOver bytes left records played seen (Ok given_step) t r =
    GoesOnOver bytes records played seen given_step t r
GoesOver bytes left records played seen (Err fault) t r =
    IsWhyUnread r.start.limits bytes left fault

-- what comes of all entries
abbrev pub GoesOverAll : List ℕ → Option (List ℕ) → List Sight → Result Tally Unread → Replaying
    → Type 0
GoesOverAll bytes left seen (Ok t) r = IsGoneOver bytes left seen t r
GoesOverAll bytes left seen (Err fault) r = IsWhyUnread r.start.limits bytes left fault
