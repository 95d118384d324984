use Rattle.std.proofs.Common.{refl, sym}
use Rattle.nv_windows.proofs.PartsAt.{fit_is, all_small}
use Rattle.nv_editor.proofs.uis.all_fit.Goals as goal

pub trees_fit-requires : goal.trees_fit-requires
trees_fit-requires c = all_small c.tabpages.result.now c.args.windows.now c.windows-windows.ensures.sound (sym c.tabpages.ensures)

pub returns : goal.returns
returns c =
    fit_is c.args.width c.args.height c.tabpages.result.now c.tabpages.result.now c.args.windows.now c.trees_fit.result refl (sym c.tabpages.ensures)
    c.trees_fit.ensures
