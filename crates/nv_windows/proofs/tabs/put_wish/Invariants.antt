use Rattle.std.proofs.Common.{◌≡◌, ◌++◌, map, take, drop}
use Rattle.nv_layout.specs.Changes.{with_wish}
use Rattle.nv_windows.specs.Operations.{page_with}
use Rattle.nv_windows.specs.Pages.{pages_of}
use Rattle.nv_windows.proofs.tabs.put_wish.Given as goal

abbrev pub invariant-loop-tabpage : goal.invariant-loop-tabpage
invariant-loop-tabpage l =
    pages_of l.tabpages
    ≡ map (page_with l.window (λ t. record t { tree = with_wish l.axis l.wish l.window t.tree })) (take l.tabpage-index (pages_of l.fn.tabpages)) ++ drop l.tabpage-index (pages_of l.fn.tabpages)
