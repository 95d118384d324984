use Rattle.std.proofs.Common.{◌∙◌, sym}
use Rattle.nv_api_win.proofs.Homes.{place_there, place_nowhere}
use Rattle.nv_api_win.proofs.finding.place_among.Goals as goal

pub returns-in-Some-clause-place : goal.returns-in-Some-clause-place
returns-in-Some-clause-place c =
    place_there c.args.windows.now c.tabpages-tabpages.result.now c.args.tabpage.now.handle c.in-Some.place c.tabpages-tabpages.ensures
    (sym c.place_of.ensures.place ∙ c.in-Some.is)

pub returns-in-None-clause-place : goal.returns-in-None-clause-place
returns-in-None-clause-place c =
    place_nowhere c.args.windows.now c.tabpages-tabpages.result.now c.args.tabpage.now.handle c.tabpages-tabpages.ensures (sym c.place_of.ensures.place ∙ c.in-None.is)
