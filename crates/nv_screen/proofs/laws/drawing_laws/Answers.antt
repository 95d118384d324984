use Rattle.nv_screen.proofs.PatchLemmas.{patches_show}
use Rattle.nv_screen.proofs.Strips.{strips_show}
use Rattle.nv_screen.proofs.WholeScreens.{screens_are_whole}
use Rattle.nv_screen.proofs.WindowLemmas.{cells_stand_by_windows}
use Rattle.nv_screen.proofs.laws.drawing_laws.Goals as goal

pub returns-clause-whole : goal.returns-clause-whole
returns-clause-whole c = screens_are_whole

pub returns-clause-strips : goal.returns-clause-strips
returns-clause-strips c = strips_show

pub returns-clause-cells : goal.returns-clause-cells
returns-clause-cells c = cells_stand_by_windows

pub returns-clause-patches : goal.returns-clause-patches
returns-clause-patches c = patches_show
