use Rattle.nv_scene.proofs.Corners.{rects_span}
use Rattle.nv_scene.proofs.DrawnAlike.{scenes_are_drawn_alike}
use Rattle.nv_scene.proofs.WorkedScenes.{first_scene_is_drawn, two_scenes_are_drawn}
use Rattle.nv_scene.proofs.laws.scene_laws.Goals as goal

pub returns-clause-span : goal.returns-clause-span
returns-clause-span c = rects_span

pub returns-clause-first : goal.returns-clause-first
returns-clause-first c = first_scene_is_drawn

pub returns-clause-two : goal.returns-clause-two
returns-clause-two c = two_scenes_are_drawn

pub returns-clause-alike : goal.returns-clause-alike
returns-clause-alike c = scenes_are_drawn_alike
