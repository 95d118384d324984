use Rattle.nv_history.proofs.Speaking.{folds_to_screen, scenes_fold_to_screen}
use Rattle.nv_history.proofs.laws.screen_law.Goals as goal

pub returns : goal.returns
returns c = record { folds = folds_to_screen; scenes = scenes_fold_to_screen }
