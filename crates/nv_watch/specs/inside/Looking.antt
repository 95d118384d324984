-- inside: mirrors that are looked at beside their buffers.
use Rattle.std.specs.Prelude.{◌≡◌, ℕ, ℤ, Bool, List, Option, Some}
use Rattle.std.specs.List.{list_any}
use Rattle.nv_rpc.specs.Messages.{Sent}
use Rattle.nv_model.specs.Seen.{Seen}
use Rattle.nv_world.specs.declared.step.Step.{Step}
use Rattle.nv_watch.specs.declared.mirror.Followed.{Followed}
use Rattle.nv_watch.specs.Folds.{holds_other}
use Rattle.nv_watch.specs.inside.Folded.{any_other_in, is_other_in}
use Rattle.nv_watch.specs.inside.Mirroring.{AreNotTwice, mirror_in}
use Rattle.nv_watch.specs.inside.Sharing.{AllBecome, AllShare, SharesIf, Texts, texts_seen}

-- one is compared: it is the mirror that it was, and it is told whether it holds other lines than
-- its buffer, where its rows are known
pub record HasLookedAt (seen : Seen) (old new : Followed) (other : Bool) : Type 0 where
  pub session : new.session ≡ old.session
  pub buffer : new.buffer ≡ old.buffer
  pub follower : new.follower ≡ old.follower
  pub shows : SharesIf old (texts_seen seen old.buffer)
      → (other ≡ holds_other old.follower.mirror (seen.buffer old.buffer))
      × SharesIf new (texts_seen seen old.buffer)

-- one is looked at: it is the mirror that it was, it is told whether it holds other lines, and its
-- rows are known in the text of now, where they were in the text before
pub record HasLooked (seen : Seen) (step : Step) (messages : List Sent) (old new : Followed)
    (other : Bool) : Type 0 where
  pub session : new.session ≡ old.session
  pub buffer : new.buffer ≡ old.buffer
  pub follower : new.follower ≡ old.follower
  pub shows : (before : Texts) → AllBecome step.splices.items before (texts_seen seen)
      → SharesIf old (before old.buffer)
      → (other ≡ is_other_in seen step messages old) × SharesIf new (texts_seen seen old.buffer)

-- all are looked at
pub record HaveLooked (seen : Seen) (step : Step) (messages : List Sent) (old new : List Followed)
    (other : Bool) : Type 0 where
  pub same : (s : ℕ) (n : ℤ) → mirror_in new s n ≡ mirror_in old s n
  pub apart : AreNotTwice old → AreNotTwice new
  pub shows : (before : Texts) → AllBecome step.splices.items before (texts_seen seen)
      → AllShare before old
      → (other ≡ list_any (is_other_in seen step messages) new) × AllShare (texts_seen seen) new

-- the same in an editor that may be known
pub record HaveLookedIn (editor : Option Seen) (step : Step) (messages : List Sent)
    (old new : List Followed) (other : Bool) : Type 0 where
  pub same : (s : ℕ) (n : ℤ) → mirror_in new s n ≡ mirror_in old s n
  pub apart : AreNotTwice old → AreNotTwice new
  pub shows : (before : Texts)
      → ((seen : Seen) → editor ≡ Some seen
      → AllBecome step.splices.items before (texts_seen seen))
      → AllShare before old
      → (other ≡ any_other_in editor step messages new)
      × ((seen : Seen) → editor ≡ Some seen → AllShare (texts_seen seen) new)
