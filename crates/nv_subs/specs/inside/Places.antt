-- Where a session stands among others, or would stand.
use Rattle.std.specs.Prelude.{◌≡◌, ℕ, ◌<◌, ◌≤◌, true, false, List, length}
use Rattle.std.specs.List.{insert, remove}
use Rattle.nv_subs.specs.Attachments.{is_session_of, with_session, without_session}

-- The session stands at this place.
pub record IsPlaceAmong (sessions : List ℕ) (session place : ℕ) : Type 0 where
  pub within : place < length sessions
  pub there : is_session_of sessions session ≡ true
  pub one_less : without_session session sessions ≡ remove sessions place
  pub one_more : with_session session sessions ≡ sessions

-- The session isn't there, and would stand at this place.
pub record IsGapAmong (sessions : List ℕ) (session place : ℕ) : Type 0 where
  pub within : place ≤ length sessions
  pub there : is_session_of sessions session ≡ false
  pub one_less : without_session session sessions ≡ sessions
  pub one_more : with_session session sessions ≡ insert sessions place session
