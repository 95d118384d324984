-- What a fold of buffers keeps.
use Rattle.std.specs.Prelude.{◌≡◌, ℕ, ℤ, ◌&&◌, Bool, false, List, Option, Some, None}
use Rattle.std.specs.List.{list_any}
use Rattle.nv_rpc.specs.Messages.{Sent}
use Rattle.nv_model.specs.Seen.{Seen}
use Rattle.nv_world.specs.declared.step.Step.{Step}
use Rattle.nv_watch.specs.declared.buffer_fold.BufferFold.{BufferFold}
use Rattle.nv_watch.specs.declared.mirror.Followed.{Followed}
use Rattle.nv_watch.specs.declared.verdict.Verdict.{Verdict}
use Rattle.nv_watch.specs.Folding.{IsFoldedWrong, is_compared, mirrors_seen}
use Rattle.nv_watch.specs.Folds.{holds_other}
use Rattle.nv_watch.specs.SeenWorlds.{editor_seen}
use Rattle.nv_watch.specs.Verdicts.{Sight, IsVerdict, last_sight}
use Rattle.nv_watch.specs.inside.Mirroring.{AreNotTwice, mirror_in}
use Rattle.nv_watch.specs.inside.Sharing.{AllShare, texts_seen}

-- whether a mirror is compared, and holds other lines; and whether one of some does
abbrev pub is_other_in : Seen → Step → List Sent → Followed → Bool
is_other_in editor step messages f =
    is_compared step messages f.session f.buffer
    && holds_other f.follower.mirror (editor.buffer f.buffer)

abbrev pub any_other_in : Option Seen → Step → List Sent → List Followed → Bool
any_other_in None step messages fs = false
any_other_in (Some editor) step messages fs = list_any (is_other_in editor step messages) fs

-- rows of mirrors are known in the texts of the world of the last that was seen
abbrev pub AreKnownIn : List Followed → List Sight → Type 0
AreKnownIn fs seen = (last : Sight) (editor : Seen) → last_sight seen ≡ Some last
    → editor_seen last.world ≡ Some editor → AllShare (texts_seen editor) fs

-- these mirrors and this verdict are those of what was seen
pub record HasFoldedWith (fs : List Followed) (said : Verdict) (seen : List Sight)
    : Type 0 where
  pub mirrors : (s : ℕ) (n : ℤ) → mirror_in fs s n ≡ mirrors_seen seen s n
  pub apart : AreNotTwice fs
  pub verdict : IsVerdict IsFoldedWrong seen said

-- and these rows of the mirrors are known
pub record HasFoldedIn (fs : List Followed) (said : Verdict) (seen : List Sight) : Type 0 where
  pub kept : HasFoldedWith fs said seen
  pub known : AreKnownIn fs seen

-- a fold has seen these
abbrev pub HasFolded : BufferFold → List Sight → Type 0
HasFolded f seen = HasFoldedIn f.followed.items f.verdict seen
