use Rattle.nv_windows.specs.Workspace.{page_of}
use Rattle.nv_api_win.proofs.LiveThings.{tabpage_again}
use Rattle.nv_api_win.proofs.finding.the_tabpage.Goals as goal

pub returns-in-Some-clause-live : goal.returns-in-Some-clause-live
returns-in-Some-clause-live c = tabpage_again c.args.editor.now.stage.workspace _ (page_of c.in-Some.tabpage.now) c.in-Some.ensures
