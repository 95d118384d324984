-- Whether what a session was sent shows its world (own rule; help: ui-linegrid).
use Rattle.std.specs.Prelude.{◌≡◌, ℕ, ◌==◌, true, if◌then◌else◌, List, [], ◌∷◌, ◌++◌, Option, Some}
use Rattle.nv_value.specs.Content.{Tree}
use Rattle.nv_screen.specs.declared.scene.Scene.{Scene}
use Rattle.nv_linegrid.specs.declared.event.Redraw.{Redraw}
use Rattle.nv_linegrid.specs.Client.{Client, first_client}
use Rattle.nv_history.specs.Spoken.{ShowsEditor}
use Rattle.nv_history.specs.UiLaws.{ShowsSceneWhole}
use Rattle.nv_history.specs.Worlds.{World as ModelWorld}
use Rattle.nv_world.specs.Worlds.{WorldRecord, model_of}
use Rattle.nv_watch.specs.GridClients.{AreTellingsOf, client_by_tellings, client_if_all_fit, have_flush}
use Rattle.nv_watch.specs.SentParts.{is_whole_sent, others_among, values_read}
use Rattle.nv_watch.specs.Verdicts.{Sight}

-- the values among what a session is sent that are no messages
abbrev pub others_sent : List ℕ → List Tree
others_sent bytes = others_among (values_read bytes).values

-- of all that a session was sent
abbrev pub others_seen : ℕ → List Sight → List Tree
others_seen s [] = []
others_seen s (x ∷ xs) =
    (if x.step.session == s then others_sent x.step.sent else []) ++ others_seen s xs

-- what the client of a session shows that took all that fits of what the session was sent
pub record IsClientOf (s : ℕ) (seen : List Sight) (c : Client) : Type 0 where
  pub tellings : List (Option (List Redraw))
  pub tell : AreTellingsOf (others_seen s seen) tellings
  pub client_is : c ≡ client_by_tellings first_client tellings

-- a client shows a scene of the editor of a world as it is drawn, with its default colours and its
-- cursor, and no cell is unknown
pub record ShowsWorld (k : WorldRecord) (c : Client) : Type 0 where
  pub world : ModelWorld
  pub model_is : model_of k ≡ Some world
  pub scene : Scene
  pub shows_editor : ShowsEditor world.editor scene
  pub shows_scene : ShowsSceneWhole c scene

-- A step shows what it should: its session is sent whole messages and redraw notifications, each
-- event in these fits what the session's client shows, and where a flush is among them the client
-- shows the world after the step.
pub record ShowsRight (before : List Sight) (x : Sight) : Type 0 where
  pub whole : is_whole_sent x.step.sent ≡ true
  pub tellings : List (Option (List Redraw))
  pub tell : AreTellingsOf (others_sent x.step.sent) tellings
  pub earlier : Client
  pub later : Client
  pub client : IsClientOf x.step.session before earlier
  pub fits : client_if_all_fit earlier tellings ≡ Some later
  pub shows : have_flush tellings ≡ true → ShowsWorld x.world later

-- the rule: it doesn't
abbrev pub ShowsWrong : List Sight → Sight → Type 0
ShowsWrong before x = ShowsRight before x → ⊥
