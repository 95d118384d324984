use Rattle.nv_screen.proofs.WorkedScreens.{first_screen_is_drawn, two_windows_are_drawn}
use Rattle.nv_screen.proofs.laws.worked_screens.Goals as goal

pub returns-clause-first : goal.returns-clause-first
returns-clause-first c = first_screen_is_drawn

pub returns-clause-two : goal.returns-clause-two
returns-clause-two c = two_windows_are_drawn
