use Rattle.nv_history.proofs.UiExampleRuns.{two_uis_run, shown_once_runs, quit_with_ui_runs}
use Rattle.nv_history.proofs.laws.worked_uis.Goals as goal

pub returns : goal.returns
returns c = record { two_uis = two_uis_run; shown_once = shown_once_runs; quit_with_ui = quit_with_ui_runs }
