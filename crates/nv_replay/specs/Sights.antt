-- What is seen of a history that is gone over (own rule).
use Rattle.std.specs.Prelude.{◌≡◌, ⊤, List, [], ◌∷◌, ◌++◌}
use Rattle.nv_history.specs.Runs.{run}
use Rattle.nv_core.specs.Contents.{plain_entries}
use Rattle.nv_world.specs.Worlds.{model_of}
use Rattle.nv_core.specs.declared.start.Start.{Start}
use Rattle.nv_book.specs.Books.{Recorded, entries_of_records}
use Rattle.nv_book.specs.Reading.{IsStepOf}
use Rattle.nv_watch.specs.Verdicts.{Sight}

-- what is seen of an entry behind these: its step, and the world after it
pub record IsSight (start : Start) (before : List Recorded) (given : Recorded) (x : Sight)
    : Type 0 where
  pub step_is : IsStepOf start before given x.world x.step
  pub history_is : plain_entries x.world.history ≡ entries_of_records (before ++ given ∷ [])
  pub world_is : model_of x.world
      ≡ run start.outbox start.limits (entries_of_records (before ++ given ∷ []))

-- what is seen of entries one after another, behind these
abbrev pub AreSights : Start → List Recorded → List Recorded → List Sight → Type 0
AreSights start before [] [] = ⊤
AreSights start before [] (x ∷ xs) = ⊥
AreSights start before (r ∷ rs) [] = ⊥
AreSights start before (r ∷ rs) (x ∷ xs) =
    IsSight start before r x × AreSights start (before ++ r ∷ []) rs xs
