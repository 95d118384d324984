-- The current window is live.
use Rattle.std.proofs.Common.{◌≡◌, ℕ, ℤ, pos, ◌+◌, ◌<◌, Bool, true, false, cond, List, [], ◌∷◌, ◌++◌, All, Some, refl, arith}
use Rattle.std.proofs.lemmas.List.Elements.{All-head, All-tail}
use Rattle.std.specs.Prelude.{flat_map, find, is_some}
use Rattle.std.specs.Option.{option_map_or}
use Rattle.std.specs.Ordering.{int_eq}
use Rattle.nv_windows.specs.Workspace.{Page, Workspace, current_window, is_live_window, handles_of_windows}
use Rattle.nv_windows.specs.Rooms.{windows_in}
use Rattle.nv_windows.specs.Sound.{times_among, handles_of_tabpages, IsSoundPage, IsSoundWorkspace}
use Rattle.nv_windows.specs.declared.window.Window.{Window}
use Rattle.nv_windows.proofs.Counting.{times-append, held_some}

-- the current window of a tabpage that is there is among its windows
current_there : (W H : ℕ) (tab : ℤ) (ts : List Page) → All (IsSoundPage W H) ts → 0 < times_among tab (handles_of_tabpages ts)
    → 0 < times_among (option_map_or (λ (t : Page). t.current) (find (λ (t : Page). int_eq t.handle tab) ts) (pos 0)) (flat_map windows_in ts)
current_there W H tab [] are some = absurd (omega arith)
current_there W H tab (t ∷ ts) are some = by_case (int_eq t.handle tab) some (current_there W H tab ts (All-tail (IsSoundPage W H) t ts are))
  where
    joined : (n : ℤ) → times_among n (windows_in t ++ flat_map windows_in ts) ≡ times_among n (windows_in t) + times_among n (flat_map windows_in ts)
    joined n = times-append n (windows_in t) (flat_map windows_in ts)

    by_case : (b : Bool) → 0 < cond b 1 0 + times_among tab (handles_of_tabpages ts)
        → (0 < times_among tab (handles_of_tabpages ts) → 0 < times_among (option_map_or (λ (u : Page). u.current) (find (λ (u : Page). int_eq u.handle tab) ts) (pos 0)) (flat_map windows_in ts))
        → 0 < times_among (option_map_or (λ (u : Page). u.current) (cond b (Some t) (find (λ (u : Page). int_eq u.handle tab) ts)) (pos 0)) (windows_in t ++ flat_map windows_in ts)
    by_case true some more = omega (arith, joined t.current, held_some t.current t.tree (All-head (IsSoundPage W H) t ts are).current)
    by_case false some more =
        omega (arith, joined (option_map_or (λ (u : Page). u.current) (find (λ (u : Page). int_eq u.handle tab) ts) (pos 0)), more (omega arith))

-- a window whose handle is there is found
found_there : (n : ℤ) (ws : List Window) → 0 < times_among n (handles_of_windows ws) → is_some (find (λ (w : Window). int_eq w.handle n) ws) ≡ true
found_there n [] some = absurd (omega arith)
found_there n (w ∷ ws) some = by_case (int_eq w.handle n) some (found_there n ws)
  where
    by_case : (b : Bool) → 0 < cond b 1 0 + times_among n (handles_of_windows ws)
        → (0 < times_among n (handles_of_windows ws) → is_some (find (λ (v : Window). int_eq v.handle n) ws) ≡ true)
        → is_some (cond b (Some w) (find (λ (v : Window). int_eq v.handle n) ws)) ≡ true
    by_case true some more = refl
    by_case false some more = more (omega arith)

pub current_is_live : (ws : Workspace) → IsSoundWorkspace ws → is_live_window ws (current_window ws) ≡ true
current_is_live ws sound =
    found_there (current_window ws) ws.windows
    (omega (arith, sound.homes (current_window ws), current_there ws.width ws.height ws.tabpage ws.tabpages sound.pages (omega (arith, sound.current))))
