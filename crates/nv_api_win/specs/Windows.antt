-- Windows and tabpages as calls tell of them (help: api-window, api-tabpage).
use Rattle.std.specs.Prelude.{ℤ, pos, unwrap_or}
use Rattle.nv_value.specs.Content.{Tree, integer, ext}
use Rattle.nv_msgpack.specs.Shortest.{shortest}
use Rattle.nv_layout.specs.declared.nodes.Rect.{Rect}
use Rattle.nv_windows.specs.Workspace.{Workspace}
use Rattle.nv_windows.specs.Rooms.{text_area}

-- the handle of a window, and that of a tabpage, as a value (help: api-types)
abbrev pub window_handle : ℤ → Tree
window_handle n = ext (pos 1) (shortest (integer n))

abbrev pub tabpage_handle : ℤ → Tree
tabpage_handle n = ext (pos 2) (shortest (integer n))

-- the text cells of a window; no row and no column where it is in no tabpage
abbrev pub no_area : Rect
no_area = record { row = 0; col = 0; width = 0; height = 0 }

abbrev pub area_of : Workspace → ℤ → Rect
area_of ws w = unwrap_or (text_area ws w) no_area
