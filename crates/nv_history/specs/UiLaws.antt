-- Laws of what UIs show along a history (own rule; help: ui, ui-linegrid).
use Rattle.std.specs.Prelude.{◌≡◌, ℕ, ◌+◌, ◌==◌, ◌≤◌, true, false, List, [], ◌∷◌, ◌++◌, map, Option, Some, None}
use Rattle.nv_model.specs.Editors.{ModelEditor}
use Rattle.nv_model.specs.Seen.{seen_of}
use Rattle.nv_model.specs.declared.parts.Limits.{Limits}
use Rattle.nv_windows.specs.Sound.{IsSoundWorkspace}
use Rattle.nv_editor.specs.Uis.{has_ui}
use Rattle.nv_screen.specs.declared.scene.Scene.{Scene}
use Rattle.nv_screen.specs.Cursor.{cursor_of_scene}
use Rattle.nv_screen.specs.Drawing.{screen_of_scene}
use Rattle.nv_scene.specs.Settling.{IsSettled}
use Rattle.nv_linegrid.specs.declared.event.Redraw.{Redraw}
use Rattle.nv_linegrid.specs.Client.{Client, first_client, client_after_all, ShowsScreen}
use Rattle.nv_linegrid.specs.Told.{Told, nothing_told, client_of}
use Rattle.nv_linegrid.specs.Batch.{batches}
use Rattle.nv_painter.specs.Pictures.{picture_of}
use Rattle.nv_history.specs.Events.{Event, open_session, request_of, take_of, close_of, Entry, nothing}
use Rattle.nv_history.specs.Worlds.{World, session_of, is_live, settled_editor, idles, step, world_made}
use Rattle.nv_history.specs.Runs.{TakenBatch, run_from, run, given, out}
use Rattle.nv_history.specs.Spoken.{ShowsEditor, AreSpoken, AreBytesOf}

-- ---- what a client shows that folds the events of its batches

-- a take of a session in a history, before which it was given these batches: the editor of the
-- batch that it gave is that of the world at that moment
pub record IsMomentOf (capacity : ℕ) (limits : Limits) (s : ℕ) (history : List Entry)
    (front : List TakenBatch) (m : ModelEditor) : Type 0 where
  pub before : List Entry
  pub entry : Entry
  pub after : List Entry
  pub world : World
  pub history_is : history ≡ before ++ entry ∷ after
  pub is_take : entry.event ≡ take_of s
  pub runs : run capacity limits before ≡ Some world
  pub editor_is : world.editor ≡ m
  pub front_is : out capacity limits s before ≡ front

-- a client shows a scene as it is drawn, with its colours and its cursor, and no cell is unknown
abbrev pub ShowsSceneWhole : Client → Scene → Type 0
ShowsSceneWhole c scene =
    ShowsScreen c (screen_of_scene scene) scene.colours (cursor_of_scene scene)

-- whatever is sent of batches of a session from its first on, the events in it fold, and once a
-- batch with an editor was sent the client shows a scene of that editor, which is the one of the
-- take's moment: through resizes, also by UIs of other sessions, and through a UI that goes and one
-- that comes again
pub record ShowsMoment (capacity : ℕ) (limits : Limits) (s : ℕ) (history : List Entry)
    (front : List TakenBatch) (m : ModelEditor) (events : List Redraw) (later : Told) : Type 0 where
  pub moment : IsMomentOf capacity limits s history front m
  pub folds : client_after_all first_client events ≡ Some (client_of later)
  pub scene : Scene
  pub shows_editor : ShowsEditor m scene
  pub shows_scene : ShowsSceneWhole (client_of later) scene

unfoldable pub FoldsToScreen : Type 0
FoldsToScreen =
    (capacity : ℕ) (limits : Limits) (history : List Entry) (w : World) (s : ℕ)
    (front back : List TakenBatch) (last : TakenBatch) (m : ModelEditor) (bytes : List ℕ)
    (events : List Redraw) (later : Told)
    → run capacity limits history ≡ Some w
    → out capacity limits s history ≡ front ++ last ∷ back → last.editor ≡ Some m
    → AreSpoken nothing_told (front ++ last ∷ []) bytes events later
    → ShowsMoment capacity limits s history front m events later

-- the editors of batches, in order
abbrev pub editor_if_given : Option ModelEditor → List ModelEditor
editor_if_given None = []
editor_if_given (Some m) = m ∷ []

abbrev pub editors_of : List TakenBatch → List ModelEditor
editors_of [] = []
editors_of (batch ∷ more) = editor_if_given batch.editor ++ editors_of more

-- scenes that show editors, one each
abbrev pub ShowEditors : List ModelEditor → List Scene → Type 0
ShowEditors [] [] = Unit {0}
ShowEditors [] (scene ∷ scenes) = ⊥
ShowEditors (m ∷ ms) [] = ⊥
ShowEditors (m ∷ ms) (scene ∷ scenes) = ShowsEditor m scene × ShowEditors ms scenes

-- the same for given scenes: a client that folds the events of the batches of a session shows the
-- scene of the last one
pub record ShowsLast (capacity : ℕ) (limits : Limits) (s : ℕ) (history : List Entry)
    (front : List TakenBatch) (m : ModelEditor) (scenes : List Scene) (scene : Scene) : Type 0 where
  pub moment : IsMomentOf capacity limits s history front m
  pub client : Client
  pub folds :
      client_after_all first_client
      (batches nothing_told (map picture_of scenes ++ picture_of scene ∷ []))
      ≡ Some client
  pub shows_scene : ShowsSceneWhole client scene

unfoldable pub ScenesFoldToScreen : Type 0
ScenesFoldToScreen =
    (capacity : ℕ) (limits : Limits) (history : List Entry) (w : World) (s : ℕ)
    (front back : List TakenBatch) (last : TakenBatch) (m : ModelEditor) (scenes : List Scene)
    (scene : Scene)
    → run capacity limits history ≡ Some w
    → out capacity limits s history ≡ front ++ last ∷ back → last.editor ≡ Some m
    → ShowEditors (editors_of front) scenes → ShowsEditor m scene
    → ShowsLast capacity limits s history front m scenes scene

-- ---- UIs of a world

-- no session that is closed has a UI
unfoldable pub UisAreOfLive : Type 0
UisAreOfLive =
    (capacity : ℕ) (limits : Limits) (history : List Entry) (w : World) (s : ℕ)
    → run capacity limits history ≡ Some w → has_ui s w.editor.stage.uis ≡ true
    → is_live (session_of w s) ≡ true

-- the stamp never falls
unfoldable pub StampsOnlyRise : Type 0
StampsOnlyRise =
    (w v : World) (entries : List Entry) → run_from w entries ≡ Some v → w.stamp ≤ v.stamp

-- a take of a session gave the editor, and the stamp is still what it was then
pub record WasShown (capacity : ℕ) (limits : Limits) (s : ℕ) (history : List Entry)
    (stamp : ℕ) : Type 0 where
  pub before : List Entry
  pub entry : Entry
  pub after : List Entry
  pub world : World
  pub batch : TakenBatch
  pub history_is : history ≡ before ++ entry ∷ after
  pub is_take : entry.event ≡ take_of s
  pub runs : run capacity limits before ≡ Some world
  pub gives_batch : given s entry.event (step world entry.event) ≡ batch ∷ []
  pub gives_editor : batch.editor ≡ Some world.editor
  pub same_stamp : world.stamp ≡ stamp

-- where there is nothing to take for a session with a UI, a take gave it the editor behind which no
-- entry was seen, and each scene of that editor is one of the editor now
pub record IsShownStill (capacity : ℕ) (limits : Limits) (s : ℕ) (history : List Entry)
    (w : World) : Type 0 where
  pub shown : WasShown capacity limits s history w.stamp
  pub stays :
      (scene : Scene) → ShowsEditor shown.world.editor scene → ShowsEditor w.editor scene

unfoldable pub NothingMeansShown : Type 0
NothingMeansShown =
    (capacity : ℕ) (limits : Limits) (history : List Entry) (w : World) (s : ℕ)
    → run capacity limits history ≡ Some w → has_ui s w.editor.stage.uis ≡ true
    → step w (take_of s) ≡ idles nothing
    → IsShownStill capacity limits s history w

-- ---- what a session is sent is decided by the history

-- two scenes of the editor of a world are the same picture
unfoldable pub PicturesAreOne : Type 0
PicturesAreOne =
    (capacity : ℕ) (limits : Limits) (history : List Entry) (w : World) (a b : Scene)
    → run capacity limits history ≡ Some w → ShowsEditor w.editor a → ShowsEditor w.editor b
    → picture_of a ≡ picture_of b

-- so a history decides the bytes of each session's batches
unfoldable pub BytesAreOne : Type 0
BytesAreOne =
    (capacity : ℕ) (limits : Limits) (history : List Entry) (w : World) (s : ℕ)
    (bytes others : List ℕ)
    → run capacity limits history ≡ Some w → AreBytesOf (out capacity limits s history) bytes
    → AreBytesOf (out capacity limits s history) others → bytes ≡ others

-- ---- settled windows

-- after each entry the windows and tabpages are sound
unfoldable pub WindowsAreSound : Type 0
WindowsAreSound =
    (capacity : ℕ) (limits : Limits) (history : List Entry) (w : World)
    → run capacity limits history ≡ Some w → IsSoundWorkspace w.editor.stage.workspace

-- and each window follows its cursor: settling would change nothing
unfoldable pub EditorsAreSettled : Type 0
EditorsAreSettled =
    (capacity : ℕ) (limits : Limits) (history : List Entry) (w : World)
    → run capacity limits history ≡ Some w → IsSettled (seen_of w.editor)

-- an opening or a take
abbrev pub IsOpeningOrTake : Event → Type 0
IsOpeningOrTake open_session = Unit {0}
IsOpeningOrTake (request_of s call) = ⊥
IsOpeningOrTake (take_of s) = Unit {0}
IsOpeningOrTake (close_of s) = ⊥

-- the editor and the stamp stay, unless the editor ended, and windows that are settled stay so
pub record LeavesEditor (w v : World) : Type 0 where
  pub same :
      (w.entries + 1 == w.limits.entries) ≡ false
      → (v.editor ≡ w.editor) × (v.stamp ≡ w.stamp)
  pub settled : IsSettled (seen_of w.editor) → IsSettled (seen_of v.editor)

unfoldable pub OpeningsAndTakesLeave : Type 0
OpeningsAndTakesLeave =
    (capacity : ℕ) (limits : Limits) (history : List Entry) (w v : World) (event : Event)
    → run capacity limits history ≡ Some w → IsOpeningOrTake event
    → world_made (step w event) ≡ Some v → LeavesEditor w v

-- a request or a close
abbrev pub IsRequestOrClose : Event → Type 0
IsRequestOrClose open_session = ⊥
IsRequestOrClose (request_of s call) = Unit {0}
IsRequestOrClose (take_of s) = ⊥
IsRequestOrClose (close_of s) = Unit {0}

-- ends by settling an editor
unfoldable pub RequestsAndClosesSettle : Type 0
RequestsAndClosesSettle =
    (w v : World) (event : Event) → IsRequestOrClose event → world_made (step w event) ≡ Some v
    → (m : ModelEditor) × (v.editor ≡ settled_editor m)

-- ---- what isn't seen

-- as long as the stamp stays, a scene of the editor stays one: no entry behind which the stamp is
-- the same changes what a UI shows
unfoldable pub SameStampSameScenes : Type 0
SameStampSameScenes =
    (capacity : ℕ) (limits : Limits) (before after : List Entry) (w v : World) (scene : Scene)
    → run capacity limits before ≡ Some w → run_from w after ≡ Some v → v.stamp ≡ w.stamp
    → ShowsEditor w.editor scene → ShowsEditor v.editor scene
