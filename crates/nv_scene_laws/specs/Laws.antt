-- A law of scenes: an editor has one.
use Rattle.std.specs.Prelude.{ℤ, ◌^◌, ◌<◌, All, length}
use Rattle.std.specs.Global.{Global}
use Rattle.nv_buffer.specs.Content.{Content}
use Rattle.nv_model.specs.Editors.{ModelEditor}
use Rattle.nv_model.specs.Seen.{Seen, seen_of}
use Rattle.nv_model.specs.Standing.{PresentEditor, Stands, seen_now}
use Rattle.nv_editor.specs.Sound.{IsSoundEditor}
use Rattle.nv_screen.specs.Sound.{IsSoundScene}
use Rattle.nv_screen.specs.declared.scene.Scene.{Scene}
use Rattle.nv_scene.specs.Scenes.{IsSceneOf}
use Rattle.nv_scene.specs.Settling.{IsSettled}

-- an editor that can be shown: it is sound, its windows are settled, its buffers have a 'tabstop',
-- and of the marks of each a vector holds as many
pub record CanBeShown (e : PresentEditor) : Type 0 where
  pub sound : IsSoundEditor e
  pub settled : IsSettled (seen_now e)
  pub stops : All (λ (b : ℤ × Content). 0 < b.1.tabstop) e.buffers
  pub few : All (λ (b : ℤ × Content). length b.1.marks.marks < 2 ^ 63) e.buffers

-- a scene of what is seen, which can be drawn
pub record HasScene (s : Seen) : Type 0 where
  pub scene : Scene
  pub shows : IsSceneOf s scene
  pub sound : IsSoundScene scene

-- an editor that can be shown has a scene, whatever the allocator of its vectors is
abbrev pub EditorsHaveScenes : Type 0
EditorsHaveScenes = Global → (e : PresentEditor) → CanBeShown e → HasScene (seen_now e)

-- and so has a model editor that it stands for
abbrev pub ModelsHaveScenes : Type 0
ModelsHaveScenes =
    Global → (e : PresentEditor) (m : ModelEditor) → CanBeShown e → Stands e m
    → HasScene (seen_of m)
