-- inside: tabpages without capacities and allocators. Only private calls cite this.
use Rattle.std.specs.Prelude.{List, map}
use Rattle.nv_windows.specs.Workspace.{Page, page_of}
use Rattle.nv_windows.specs.declared.window.Tabpage.{Tabpage}

abbrev pub pages_of : List Tabpage → List Page
pages_of tabpages = map page_of tabpages
