use Rattle.nv_scene.proofs.SettlingLaws.{settled_show_cursors, settling_is_once}
use Rattle.nv_scene.proofs.laws.settling_laws.Goals as goal

pub returns-clause-once : goal.returns-clause-once
returns-clause-once c = settling_is_once

pub returns-clause-cursors : goal.returns-clause-cursors
returns-clause-cursors c = settled_show_cursors
