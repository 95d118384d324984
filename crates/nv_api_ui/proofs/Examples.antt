-- Worked examples of UIs, computed by the definitions.
use Rattle.std.proofs.Common.{refl}
use Rattle.nv_api_ui.specs.WorkedUis.{OneUiIsAllowed, OptionFaults, ScreenIsShared, SizeFaults, UisAreListed}

pub uis_are_listed : UisAreListed
unfolding UisAreListed
uis_are_listed = refl

pub option_faults : OptionFaults
unfolding OptionFaults
option_faults = refl

pub size_faults : SizeFaults
unfolding SizeFaults
size_faults = refl

pub one_ui_is_allowed : OneUiIsAllowed
unfolding OneUiIsAllowed
one_ui_is_allowed = refl

pub screen_is_shared : ScreenIsShared
unfolding ScreenIsShared
screen_is_shared = (refl, refl, refl)
