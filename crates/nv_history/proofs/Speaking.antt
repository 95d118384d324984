-- What is spoken of batches folds to the screen of the last one.
use Rattle.std.proofs.Common.{◌≡◌, ℕ, List, [], ◌∷◌, ◌++◌, map, refl, sym, ◌∙◌, subst, Option, Some, None}
use Rattle.std.specs.List.{AllByRecursion}
use Rattle.std.proofs.lemmas.Option.{none-some}
use Rattle.nv_model.specs.Editors.{ModelEditor}
use Rattle.nv_model.specs.declared.parts.Limits.{Limits}
use Rattle.nv_screen.specs.declared.scene.Scene.{Scene}
use Rattle.nv_linegrid.specs.declared.event.Redraw.{Redraw}
use Rattle.nv_linegrid.specs.Client.{client_after_all}
use Rattle.nv_linegrid.specs.Told.{Told, nothing_told, client_of, IsWhole, IsDrawn}
use Rattle.nv_linegrid.proofs.FoldLemmas.{folds_then}
use Rattle.nv_linegrid.proofs.BatchLemmas.{batch_shows, batches_show_the_last}
use Rattle.nv_painter.specs.Pictures.{picture_of}
use Rattle.nv_painter.proofs.PictureLemmas.{sound_is_shown}
use Rattle.nv_history.specs.Events.{Entry}
use Rattle.nv_history.specs.Worlds.{fresh_world}
use Rattle.nv_history.specs.Runs.{TakenBatch}
use Rattle.nv_history.specs.Spoken.{ShowsEditor, ShowsIfGiven, events_of, told_with, IsSpoken, AreSpoken}
use Rattle.nv_history.specs.UiLaws.{IsMomentOf, ShowsSceneWhole, FoldsToScreen, editors_of, ShowEditors, ScenesFoldToScreen}
use Rattle.nv_history.proofs.Moments.{TakenIn, taken_in}

-- events that take a client from what it was told to what it was told then
pub record Tells (told : Told) (events : List Redraw) (later : Told) : Type 0 where
  pub folds : client_after_all (client_of told) events ≡ Some (client_of later)
  pub whole : IsWhole later

scene_tells : (told : Told) (given : Option ModelEditor) (scene : Option Scene) → IsWhole told → ShowsIfGiven given scene → Tells told (events_of told scene) (told_with told scene)
scene_tells told None None whole shows = record { folds = refl; whole = whole }
scene_tells told None (Some scene) whole shows = absurd shows
scene_tells told (Some m) None whole shows = absurd shows
scene_tells told (Some m) (Some scene) whole shows =
    let one = batch_shows told (picture_of scene) whole (sound_is_shown scene shows.sound) in record { folds = one.folds; whole = one.whole }

one_tells : (told later : Told) (given : TakenBatch) (bytes : List ℕ) (events : List Redraw) → IsWhole told → IsSpoken told given bytes events later → Tells told events later
one_tells told later given bytes events whole h =
    subst (λ (t : Told). Tells told events t) (sym h.later_is)
    (subst (λ (es : List Redraw). Tells told es (told_with told h.scene)) (sym h.events_are) (scene_tells told given.editor h.scene whole h.shows))

tells_then : (told between later : Told) (a b : List Redraw) → Tells told a between → Tells between b later → Tells told (a ++ b) later
tells_then told between later a b g h = record {
  folds = folds_then (client_of told) (client_of between) (Some (client_of later)) a b g.folds h.folds;
  whole = h.whole;
}

pub spoken_tells : (told : Told) (bs : List TakenBatch) (bytes : List ℕ) (events : List Redraw) (later : Told) → IsWhole told → AreSpoken told bs bytes events later → Tells told events later
spoken_tells told [] bytes events later whole h =
    subst (λ (t : Told). Tells told events t) (sym h.2)
    (subst (λ (es : List Redraw). Tells told es told) (sym h.1) (record { folds = refl; whole = whole }))
spoken_tells told (b ∷ bs) bytes events later whole h =
    let first = one_tells told h.between b h.first_bytes h.first_events whole h.first in
    subst (λ (es : List Redraw). Tells told es later) (sym h.events_are)
    (tells_then told h.between later h.first_events h.other_events first (spoken_tells h.between bs h.other_bytes h.other_events later first.whole h.rest))

-- ---- the last batch
pub record ShowsNow (m : ModelEditor) (later : Told) : Type 0 where
  pub scene : Scene
  pub shows_editor : ShowsEditor m scene
  pub shows_scene : ShowsSceneWhole (client_of later) scene

shown_now : (told : Told) (m : ModelEditor) (given : Option ModelEditor) (scene : Option Scene) → IsWhole told → given ≡ Some m → ShowsIfGiven given scene → ShowsNow m (told_with told scene)
shown_now told m None scene whole is shows = absurd (none-some m is)
shown_now told m (Some k) None whole is shows = absurd shows
shown_now told m (Some k) (Some scene) whole is shows =
    let one = batch_shows told (picture_of scene) whole (sound_is_shown scene shows.sound) in record {
      scene = scene;
      shows_editor = subst (λ (o : Option ModelEditor). ShowsIfGiven o (Some scene)) is shows;
      shows_scene = one.shows;
    }

pub last_shown : (told : Told) (front : List TakenBatch) (last : TakenBatch) (m : ModelEditor) (bytes : List ℕ) (events : List Redraw) (later : Told) → IsWhole told → last.editor ≡ Some m
    → AreSpoken told (front ++ last ∷ []) bytes events later → ShowsNow m later
last_shown told [] last m bytes events later whole is h =
    subst (λ (t : Told). ShowsNow m t) (sym (h.rest.2 ∙ h.first.later_is))
    (shown_now told m last.editor h.first.scene whole is h.first.shows)
last_shown told (b ∷ bs) last m bytes events later whole is h =
    last_shown h.between bs last m h.other_bytes h.other_events later (one_tells told h.between b h.first_bytes h.first_events whole h.first).whole is h.rest

nothing_whole : IsWhole nothing_told
nothing_whole s e = absurd (none-some s e)

moment_of : (capacity : ℕ) (limits : Limits) (history : List Entry) (s : ℕ) (front : List TakenBatch) (last : TakenBatch) (m : ModelEditor)
    → TakenIn (fresh_world capacity limits) s history front last → last.editor ≡ Some m → IsMomentOf capacity limits s history front m
moment_of capacity limits history s front last m t is = record {
  before = t.before;
  entry = t.entry;
  after = t.after;
  world = t.world;
  history_is = t.entries_are;
  is_take = t.is_take;
  runs = t.runs;
  editor_is = t.editor_is m is;
  front_is = t.front_is;
}

pub folds_to_screen : FoldsToScreen
unfolding FoldsToScreen
folds_to_screen capacity limits history w s front back last m bytes events later runs given is spoken =
    let now = last_shown nothing_told front last m bytes events later nothing_whole is spoken in record {
      moment = moment_of capacity limits history s front last m (taken_in (fresh_world capacity limits) w s history front back last runs given) is;
      folds = (spoken_tells nothing_told (front ++ last ∷ []) bytes events later nothing_whole spoken).folds;
      scene = now.scene;
      shows_editor = now.shows_editor;
      shows_scene = now.shows_scene;
    }

-- ---- given scenes
all_drawn : (ms : List ModelEditor) (scenes : List Scene) → ShowEditors ms scenes → AllByRecursion IsDrawn (map picture_of scenes)
all_drawn [] [] h = tt
all_drawn [] (scene ∷ scenes) h = absurd h
all_drawn (m ∷ ms) [] h = absurd h
all_drawn (m ∷ ms) (scene ∷ scenes) h = (sound_is_shown scene h.0.sound, all_drawn ms scenes h.1)

pub scenes_fold_to_screen : ScenesFoldToScreen
unfolding ScenesFoldToScreen
scenes_fold_to_screen capacity limits history w s front back last m scenes scene runs given is shown shows =
    let c = batches_show_the_last (map picture_of scenes) (picture_of scene) (all_drawn (editors_of front) scenes shown) (sound_is_shown scene shows.sound) in record {
      moment = moment_of capacity limits history s front last m (taken_in (fresh_world capacity limits) w s history front back last runs given) is;
      client = c.0;
      folds = c.1;
      shows_scene = c.2;
    }
