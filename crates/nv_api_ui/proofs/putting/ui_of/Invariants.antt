use Rattle.std.proofs.Common.{◌≡◌, drop}
use Rattle.nv_api_ui.specs.UiRows.{ui_of}
use Rattle.nv_api_ui.proofs.putting.ui_of.Given as goal

abbrev pub invariant-loop-ui : goal.invariant-loop-ui
invariant-loop-ui l = ui_of l.session (drop l.ui-index l.uis) ≡ ui_of l.session l.uis
