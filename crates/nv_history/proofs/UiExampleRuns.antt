-- Worked examples of UIs, computed by the definitions.
use Rattle.std.proofs.Common.{refl}
use Rattle.nv_model.specs.Buffers.{text_of, state_behind, marks_of}
use Rattle.nv_dispatch.specs.Calls.{row_of}
use Rattle.nv_history.specs.UiExamples.{TwoUis, ShownOnce, QuitWithUi}

pub two_uis_run : TwoUis
unfolding TwoUis text_of state_behind marks_of row_of
two_uis_run = (refl, refl)

pub shown_once_runs : ShownOnce
unfolding ShownOnce text_of state_behind marks_of row_of
shown_once_runs = (refl, refl)

pub quit_with_ui_runs : QuitWithUi
unfolding QuitWithUi text_of state_behind marks_of row_of
quit_with_ui_runs = (refl, refl)
