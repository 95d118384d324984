use Rattle.nv_history.proofs.LiveUis.{uis_are_of_live}
use Rattle.nv_history.proofs.SameScenes.{nothing_means_shown, same_stamp_same_scenes}
use Rattle.nv_history.proofs.Stamps.{stamps_only_rise}
use Rattle.nv_history.proofs.laws.ui_laws.Goals as goal

pub returns : goal.returns
returns c = record { live = uis_are_of_live; rise = stamps_only_rise; same = same_stamp_same_scenes; nothing = nothing_means_shown }
