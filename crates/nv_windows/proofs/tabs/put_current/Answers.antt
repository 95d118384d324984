use Rattle.std.proofs.Common.{◌∙◌, sym, ap, w64, arith}
use Rattle.std.proofs.lemmas.Int.{to_z-of_z}
use mir.Val.{to_z, of_z}
use Rattle.nv_windows.specs.Workspace.{page_of}
use Rattle.nv_windows.specs.declared.window.Tabpage.{Tabpage}
use Rattle.nv_windows.specs.Workspace.{Page}
use Rattle.nv_windows.specs.Pages.{pages_of}
use Rattle.nv_windows.specs.Operations.{page_with, tabpages_with}
use Rattle.nv_windows.proofs.Mapped.{one_seen, all_seen}
use Rattle.nv_windows.proofs.tabs.put_current.Goals as goal

pub loop-tabpage-preserved : goal.loop-tabpage-preserved
loop-tabpage-preserved c =
    one_seen page_of (page_with (to_z w64 (of_z w64 c.args.window)) (λ (t : Page). record t { current = to_z w64 (of_z w64 c.args.window) })) c.args.tabpages.now c.loop-tabpage.tabpages c.loop-tabpage.tabpage-index
    c.tabpage-item.result c.put_current_of.new.tabpage (omega arith) (omega arith) c.loop-tabpage.invariant c.tabpage-item.is
    (c.put_current_of.ensures ∙ ap (λ (t : Tabpage). page_with (to_z w64 (of_z w64 c.args.window)) (λ (u : Page). record u { current = to_z w64 (of_z w64 c.args.window) }) (page_of t)) (sym c.tabpage-item.is))

pub returns : goal.returns
returns c =
    all_seen page_of (page_with (to_z w64 (of_z w64 c.args.window)) (λ (t : Page). record t { current = to_z w64 (of_z w64 c.args.window) })) c.args.tabpages.now c.loop-tabpage.tabpages c.loop-tabpage.tabpage-index
    (omega arith) c.loop-tabpage.invariant
    ∙ ap (λ w. tabpages_with w (λ (t : Page). record t { current = w }) (pages_of c.args.tabpages.now)) (to_z-of_z w64 c.args.window c.ranges.window)
