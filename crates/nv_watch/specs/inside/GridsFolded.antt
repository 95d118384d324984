-- The clients that a watcher keeps.
use Rattle.std.specs.Prelude.{◌≡◌, ℕ, ◌==◌, Bool, true, false, List, [], ◌∷◌, ◌++◌, slice_index_or}
use Rattle.nv_value.specs.Content.{Tree}
use Rattle.nv_linegrid.specs.Client.{Client, first_client}
use Rattle.nv_world.specs.Worlds.{WorldRecord}
use Rattle.nv_watch.specs.Grids.{IsClientOf, ShowsRight, ShowsWorld, ShowsWrong}
use Rattle.nv_watch.specs.Verdicts.{Sight, IsVerdict}
use Rattle.nv_watch.specs.declared.grid_client.Taken.{Taken}
use Rattle.nv_watch.specs.declared.grid_fold.GridFold.{GridFold}
use Rattle.nv_watch.specs.declared.verdict.Verdict.{Verdict}
use Rattle.nv_watch.specs.inside.GridsTaken.{TookValues}

-- the client of a session: one to which nothing was told where it has none yet
abbrev pub client_kept : List Client → ℕ → Client
client_kept clients s = slice_index_or clients s first_client

-- these are the clients of all sessions
abbrev pub AreClientsOf : List Sight → List Client → Type 0
AreClientsOf seen clients = (s : ℕ) → IsClientOf s seen (client_kept clients s)

-- these clients and this verdict are those of what was seen
pub record HasFoldedIn (clients : List Client) (said : Verdict) (seen : List Sight)
    : Type 0 where
  pub are : AreClientsOf seen clients
  pub verdict : IsVerdict ShowsWrong seen said

-- a watcher has seen these
abbrev pub HasFolded : GridFold → List Sight → Type 0
HasFolded f seen = HasFoldedIn f.clients.items f.verdict seen

-- the client of a session took what fits of what values tell, and no other did
pub record TookAt (ts : List Tree) (session : ℕ) (old new : List Client) (taken : Taken)
    : Type 0 where
  pub others : (s : ℕ) → (session == s) ≡ false → client_kept new s ≡ client_kept old s
  pub took : TookValues ts (client_kept old session) (client_kept new session) taken

-- all that was sent is whole and fits, and after a flush the client shows the world
pub record IsRightSent (k : WorldRecord) (c : Client) (whole : Bool) (taken : Taken)
    : Type 0 where
  pub whole_is : whole ≡ true
  pub fits : taken.fits ≡ true
  pub shows : taken.flushed ≡ true → ShowsWorld k c

-- by a step the clients took what fits, and it is told whether the step shows what it should
pub record StepFolds (old new : List Client) (x : Sight) (right : Bool) : Type 0 where
  pub clients : (seen : List Sight) → AreClientsOf seen old → AreClientsOf (seen ++ x ∷ []) new
  pub is_right :
      (seen : List Sight) → AreClientsOf seen old → right ≡ true → ShowsRight seen x
  pub is_wrong :
      (seen : List Sight) → AreClientsOf seen old → right ≡ false → ShowsWrong seen x
