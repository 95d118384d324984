use Rattle.nv_scene_laws.proofs.Made.{editors_have_scenes, models_have_scenes}
use Rattle.nv_scene_laws.proofs.laws.scenes_exist.Goals as goal

pub returns-clause-kept : goal.returns-clause-kept
returns-clause-kept c = editors_have_scenes

pub returns-clause-models : goal.returns-clause-models
returns-clause-models c = models_have_scenes
