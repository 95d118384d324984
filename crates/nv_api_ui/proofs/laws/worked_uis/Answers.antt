use Rattle.nv_api_ui.proofs.Examples.{one_ui_is_allowed, option_faults, screen_is_shared, size_faults, uis_are_listed}
use Rattle.nv_api_ui.proofs.laws.worked_uis.Goals as goal

pub returns : goal.returns
returns c = record {
  listed = uis_are_listed;
  options = option_faults;
  sizes = size_faults;
  limit = one_ui_is_allowed;
  screen = screen_is_shared;
}
