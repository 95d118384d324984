-- inside: what the fields of all windows and tabpages stand for. Only private calls cite this.
use Rattle.std.specs.Prelude.{ℕ, ℤ, pos, ◌+ℤ◌, [], ◌∷◌, ◌++◌, slice_index_or, slice_set}
use Rattle.nv_layout.specs.Content.{Shape}
use Rattle.nv_windows.specs.Workspace.{Page, Workspace, plain_leaf, window_on}
use Rattle.nv_windows.specs.Operations.{other_windows, page_without}
use Rattle.nv_windows.specs.Pages.{pages_of}
use Rattle.nv_windows.specs.declared.parts.Parts.{Parts}

abbrev pub workspace_of : Parts → Workspace
workspace_of p = record {
  windows = p.windows.items;
  tabpages = pages_of p.tabpages.items;
  tabpage = p.tabpage;
  width = p.width;
  height = p.height;
  next_window = p.next_window;
  next_tabpage = p.next_tabpage;
}

-- the tabpage at a place
abbrev pub page_at : Workspace → ℕ → Page
page_at ws place =
    slice_index_or ws.tabpages place
    (record { handle = pos 0; tree = plain_leaf (pos 0); current = pos 0 })

-- the tabpages with another tree at a place
abbrev pub with_tree_at : Workspace → ℕ → Shape → Workspace
with_tree_at ws place tree =
    record ws { tabpages = slice_set ws.tabpages place (record (page_at ws place) { tree = tree }) }

-- the next window on a buffer
abbrev pub with_next_window : ℤ → Workspace → Workspace
with_next_window buffer ws = record ws {
  windows = ws.windows ++ window_on ws.next_window buffer ∷ [];
  next_window = ws.next_window +ℤ pos 1;
}

-- a window closed in the tabpage at a place
abbrev pub without_window_at : ℤ → ℕ → Workspace → Workspace
without_window_at w place ws = record ws {
  windows = other_windows w ws.windows;
  tabpages = slice_set ws.tabpages place (page_without w (page_at ws place));
}
