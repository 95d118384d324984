-- Tabpages in their order.
use Rattle.std.proofs.Common.{◌≡◌, ◌∙◌, refl, sym, ap, ℕ, ℤ, Option, Some, None, List, length, map}
use Rattle.std.specs.Prelude.{pos, position, option_map, unwrap_or}
use Rattle.std.specs.Option.{option_map_or}
use Rattle.std.specs.Ordering.{int_eq}
use Rattle.nv_windows.specs.Workspace.{Page, Workspace, page_of}
use Rattle.nv_windows.specs.Operations.{place_among}
use Rattle.nv_windows.specs.declared.window.Tabpage.{Tabpage}
use Rattle.nv_windows.proofs.PageOrder.{stands_before}

-- the handle of a tabpage that may not be there
pub home_or_none : (o : Option Page) → unwrap_or (option_map (λ t. t.handle) o) (pos 0) ≡ option_map_or (λ t. t.handle) o (pos 0)
home_or_none None = refl
home_or_none (Some t) = refl

-- how many stand before one
pub place_there : (ws : Workspace) (ts : List Tabpage) (n : ℤ) (i : ℕ) → map page_of ts ≡ ws.tabpages
    → position (λ (t : Tabpage). int_eq t.handle n) ts ≡ Some i → i ≡ place_among n ws.tabpages
place_there ws ts n i same e = stands_before ts n (Some i) (sym e) ∙ ap (place_among n) same

pub place_nowhere : (ws : Workspace) (ts : List Tabpage) (n : ℤ) → map page_of ts ≡ ws.tabpages
    → position (λ (t : Tabpage). int_eq t.handle n) ts ≡ None → length ts ≡ place_among n ws.tabpages
place_nowhere ws ts n same e = stands_before ts n None (sym e) ∙ ap (place_among n) same
