use Rattle.std.proofs.Common.{◌≡◌, ◌++◌, map, take, drop}
use Rattle.nv_windows.specs.Operations.{page_with}
use Rattle.nv_windows.specs.Pages.{pages_of}
use Rattle.nv_windows.proofs.tabs.put_current.Given as goal

abbrev pub invariant-loop-tabpage : goal.invariant-loop-tabpage
invariant-loop-tabpage l =
    pages_of l.tabpages
    ≡ map (page_with l.window (λ t. record t { current = l.window })) (take l.tabpage-index (pages_of l.fn.tabpages)) ++ drop l.tabpage-index (pages_of l.fn.tabpages)
