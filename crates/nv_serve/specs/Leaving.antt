-- What is left of a server: a core, which stands for the one history.
use Rattle.std.specs.Prelude.{◌≡◌, Bool, List}
use Rattle.nv_core.specs.Contents.{plain_entries}
use Rattle.nv_core.specs.declared.entry.Entry.{Entry as WorldEntry}
use Rattle.nv_core.specs.declared.start.Start.{Start}
use Rattle.nv_serve.specs.Links.{LanesWords}
use Rattle.nv_serve.specs.Headline.{ServerLeaves}

-- lanes were served on a core that began so: it begins so still, and stands for a history in which
-- the lanes left what they say
pub record LeavesCore {C L I S : Type 0} (t : LanesWords L I S)
    (stands : C → List WorldEntry → Type 0) (start_of : C → Start) (start : Start) (core : C)
    (spent failed : Bool) (olds news : List L) : Type 0 where
  pub begins : start_of core ≡ start
  pub story : List WorldEntry
  pub stands_for : stands core story
  pub leaves : ServerLeaves t start (plain_entries story) spent failed olds news
