-- inside: entries that are offered to a world, one after another.
use Rattle.std.specs.Prelude.{◌≡◌, ◌++◌, ◌∷◌, List, Some}
use Rattle.nv_history.specs.Events.{Entry}
use Rattle.nv_history.specs.Worlds.{World}
use Rattle.nv_core.specs.Contents.{plain_entries}
use Rattle.nv_world.specs.Worlds.{WorldRecord, model_of}
use Rattle.nv_replay.specs.Entering.{entered}

-- an entry was offered to a world: what entered before, with what will enter of it and of others,
-- is what has entered now, with what will of the others
pub record HasOffered (e : Entry) (old new : WorldRecord) (w : World) : Type 0 where
  pub next : World
  pub runs : model_of new ≡ Some next
  pub capacity_is : new.capacity ≡ old.capacity
  pub limits_are : new.limits ≡ old.limits
  pub goes : (more : List Entry) → plain_entries old.history ++ entered w (e ∷ more)
      ≡ plain_entries new.history ++ entered next more

abbrev pub Offers : Entry → WorldRecord → WorldRecord → Type 0
Offers e old new = (w : World) → model_of old ≡ Some w → HasOffered e old new w
