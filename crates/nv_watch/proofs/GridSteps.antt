-- Whether a client shows a world, by a scene of its editor.
use Rattle.std.proofs.Common.{◌≡◌, ◌↔◌, sym, ◌∙◌, Bool, true, false, Some, subst}
use Rattle.std.specs.Prelude.{IsSome, IsTrue}
use Rattle.nv_model.specs.Standing.{PresentEditor, Stands, seen_now}
use Rattle.nv_linegrid.specs.Client.{Client, ShowsScreen}
use Rattle.nv_linegrid.specs.Told.{Wanted}
use Rattle.nv_screen.specs.declared.scene.Scene.{Scene}
use Rattle.nv_screen.specs.Sound.{IsSoundScene}
use Rattle.nv_scene.specs.Scenes.{IsSceneOf}
use Rattle.nv_scene.specs.Settling.{IsSettled}
use Rattle.nv_history.specs.Spoken.{ShowsEditor}
use Rattle.nv_history.specs.UiLaws.{EditorsAreSettled, PicturesAreOne, ShowsSceneWhole}
use Rattle.nv_history.specs.Worlds.{World as ModelWorld}
use Rattle.nv_core.specs.Contents.{plain_entries}
use Rattle.nv_world.specs.Worlds.{WorldRecord, model_of}
use Rattle.nv_world.proofs.Entries.{some_of}
use Rattle.nv_world.proofs.Standings.{settled_kept, shows_now}
use Rattle.nv_watch.specs.Grids.{ShowsWorld}

-- what is known of a world that isn't spent, and of its editor
abbrev pub StandsInWorld : WorldRecord → PresentEditor → Type 0
StandsInWorld k e = (w : ModelWorld) → k.spent ≡ false → model_of k ≡ Some w → Stands e w.editor

-- the editor is settled
settled_in : EditorsAreSettled → (k : WorldRecord) (w : ModelWorld) → model_of k ≡ Some w → (e : PresentEditor) → Stands e w.editor → IsSettled (seen_now e)
unfolding EditorsAreSettled
settled_in law k w is e stands = settled_kept e w.editor stands (law k.capacity k.limits (plain_entries k.history) w is)

pub world_settled : EditorsAreSettled → (k : WorldRecord) (e : PresentEditor) → IsSome (model_of k) → StandsInWorld k e → k.spent ≡ false → IsSettled (seen_now e)
world_settled law k e there stands fresh =
    let found = some_of (model_of k) there in
    settled_in law k found.0 found.1 e (stands found.0 fresh found.1)

-- two scenes of the editor are shown alike
shown_alike : PicturesAreOne → (k : WorldRecord) (w : ModelWorld) (a b : Scene) (c : Client) → model_of k ≡ Some w → ShowsEditor w.editor a → ShowsEditor w.editor b
    → ShowsSceneWhole c a → ShowsSceneWhole c b
unfolding PicturesAreOne
shown_alike law k w a b c is shows_a shows_b whole =
    subst (λ (p : Wanted). ShowsScreen c p.screen p.colours p.cursor) (law k.capacity k.limits (plain_entries k.history) w a b is shows_a shows_b) whole

same_world : (a b : ModelWorld) → Some a ≡ Some b → a ≡ b
same_world a b e = cc

pub world_shown : PicturesAreOne → (k : WorldRecord) (e : PresentEditor) (scene : Scene) (c : Client) (shown : Bool) → IsSome (model_of k) → StandsInWorld k e
    → k.spent ≡ false → IsSceneOf (seen_now e) scene → IsSoundScene scene → (IsTrue shown ↔ ShowsSceneWhole c scene) → IsTrue shown ↔ ShowsWorld k c
world_shown law k e scene c shown there stands fresh is sound told = (forth, back)
  where
    world : ModelWorld
    world = (some_of (model_of k) there).0

    model_is : model_of k ≡ Some world
    model_is = (some_of (model_of k) there).1

    shows : ShowsEditor world.editor scene
    shows = shows_now e world.editor scene (stands world fresh model_is) is sound

    forth : shown ≡ true → ShowsWorld k c
    forth h = record {
      world = world;
      model_is = model_is;
      scene = scene;
      shows_editor = shows;
      shows_scene = told.0 h;
    }

    back : ShowsWorld k c → shown ≡ true
    back h =
        let same : h.world ≡ world = same_world h.world world (sym h.model_is ∙ model_is) in
        told.1 (shown_alike law k world h.scene scene c model_is (subst (λ (w : ModelWorld). ShowsEditor w.editor h.scene) same h.shows_editor) shows h.shows_scene)
