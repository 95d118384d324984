-- What a voice speaks of a batch, in the words of what a session is sent.
use Rattle.std.proofs.Common.{◌≡◌, Option, Some, None, Result, Ok, Err, refl}
use Rattle.std.specs.Prelude.{OnOk}
use Rattle.nv_screen.specs.declared.scene.Scene.{Scene}
use Rattle.nv_linegrid.specs.Told.{Told}
use Rattle.nv_painter.specs.Spoken.{spoken_scene}
use Rattle.nv_history.specs.Spoken.{bytes_of_scene}

pub scene_plain : (told : Told) (scene : Option Scene) → spoken_scene told scene ≡ bytes_of_scene told scene
scene_plain told None = refl
scene_plain told (Some scene) = refl

-- ---- facts under a result

pub on_ok : {T E : Type 0} (r : Result T E) (P Q : Type 0) → (P → Q) → OnOk r P → OnOk r Q
on_ok (Ok x) P Q f h = f h
on_ok (Err e) P Q f h = tt
