use Rattle.nv_screen.proofs.SoundLemmas.{sound_is_drawable, sound_is_in_reach}
use Rattle.nv_screen.proofs.laws.sound_scene_laws.Goals as goal

pub returns-clause-drawable : goal.returns-clause-drawable
returns-clause-drawable c = sound_is_drawable

pub returns-clause-reach : goal.returns-clause-reach
returns-clause-reach c = sound_is_in_reach
