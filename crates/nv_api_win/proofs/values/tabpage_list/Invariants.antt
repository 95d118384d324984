use Rattle.std.proofs.Common.{◌≡◌, ◌++◌, map, drop}
use Rattle.nv_value.specs.View.{content, contents}
use Rattle.nv_msgpack.specs.Shortest.{HaveSpellings}
use Rattle.nv_windows.specs.declared.window.Tabpage.{Tabpage}
use Rattle.nv_api_win.specs.Windows.{tabpage_handle}
use Rattle.nv_api_win.proofs.values.tabpage_list.Given as goal

abbrev pub invariant-loop-tabpage : goal.invariant-loop-tabpage
invariant-loop-tabpage l = record {
  all : map content l.items.items ++ map (λ (t : Tabpage). tabpage_handle t.handle) (drop l.tabpage-index l.tabpages) ≡ map (λ (t : Tabpage). tabpage_handle t.handle) l.tabpages;
  spelled : HaveSpellings (contents l.items.items);
}
