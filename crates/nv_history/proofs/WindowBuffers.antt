-- The buffers that windows show have handles below the next one.
use Rattle.std.proofs.Common.{ℤ, pos, ◌+ℤ◌, ◌<ℤ◌, ◌≤ℤ◌, List, [], ◌∷◌, ◌++◌, map, filter, arith, Bool, true, false, cond, Option, Some, None}
use Rattle.std.specs.Prelude.{if◌then◌else◌}
use Rattle.std.specs.List.{AllByRecursion}
use Rattle.std.specs.Ordering.{int_eq}
use Rattle.std.proofs.lemmas.Int.{ints}
use Rattle.nv_windows.specs.Workspace.{window_on}
use Rattle.nv_windows.specs.declared.window.Window.{Window}
use Rattle.nv_model.specs.Buffers.{Splice, ModelBuffer, text_of}
use Rattle.nv_model.specs.Editors.{ModelEditor, at_handle}
use Rattle.nv_model.specs.Operations.{Operation, spliced, spliced_back, buffer_made, window_opened, window_closed, tab_made, tab_closed, cursor_put, top_put, shown, ui_put, uis_dropped, stage_spliced, after_operation, after_operations}
use Rattle.nv_model.specs.Stage.{Stage, with_uis, ui_among, other_uis, view_moved}
use Rattle.nv_model.specs.Laws.{IsNumbered}
use Rattle.nv_model.specs.declared.parts.Ui.{Ui}
use Rattle.nv_model.proofs.Numbering.{stays_below}
use Rattle.nv_history.proofs.GoneBuffers.{next_rises}

abbrev pub AreBelow : ℤ → List Window → Type 0
AreBelow next ws = AllByRecursion (λ w. w.buffer <ℤ next) ws

-- an operation shows no buffer but those below a handle
abbrev pub ShowsBelow : ℤ → Operation → Type 0
ShowsBelow next (shown w b) = b <ℤ next
ShowsBelow next (window_opened beside side b width height) = b <ℤ next
ShowsBelow next (tab_made b) = b <ℤ next
ShowsBelow next _ = Unit {0}

abbrev pub AllShowBelow : ℤ → List Operation → Type 0
AllShowBelow next [] = Unit {0}
AllShowBelow next (c ∷ cs) = ShowsBelow next c × AllShowBelow next cs

-- and none at all
abbrev pub IsStill : Operation → Type 0
IsStill (shown w b) = ⊥
IsStill (window_opened beside side b width height) = ⊥
IsStill (tab_made b) = ⊥
IsStill _ = Unit {0}

abbrev pub AllStill : List Operation → Type 0
AllStill operations = AllByRecursion IsStill operations

pub still-append : (cs ds : List Operation) → AllStill cs → AllStill ds → AllStill (cs ++ ds)
still-append [] ds are more = more
still-append (c ∷ cs) ds are more = (are.0, still-append cs ds are.1 more)

still_below : (next : ℤ) (c : Operation) → IsStill c → ShowsBelow next c
still_below next (shown w b) is = absurd is
still_below next (window_opened beside side b width height) is = absurd is
still_below next (tab_made b) is = absurd is
still_below next c is = tt

pub all_still_below : (next : ℤ) (cs : List Operation) → AllStill cs → AllShowBelow next cs
all_still_below next [] are = tt
all_still_below next (c ∷ cs) are = (still_below next c are.0, all_still_below next cs are.1)

-- ---- windows
pub raised : (k n : ℤ) (ws : List Window) → k ≤ℤ n → AreBelow k ws → AreBelow n ws
raised k n [] low h = tt
raised k n (w ∷ ws) low h = let first = h.0 in (omega (arith, ints, low, first), raised k n ws low h.1)

mapped : (n : ℤ) (f : Window → Window) (ws : List Window) → ((w : Window) → w.buffer <ℤ n → (f w).buffer <ℤ n) → AreBelow n ws → AreBelow n (map f ws)
mapped n f [] keeps h = tt
mapped n f (w ∷ ws) keeps h = (keeps w h.0, mapped n f ws keeps h.1)

either_below : (n : ℤ) (b : Bool) (v w : Window) → v.buffer <ℤ n → w.buffer <ℤ n → (if b then v else w).buffer <ℤ n
either_below n true v w p q = p
either_below n false v w p q = q

filter_step : (n : ℤ) (b : Bool) (w : Window) (ws : List Window) → w.buffer <ℤ n → AreBelow n ws → AreBelow n (cond b (w ∷ ws) ws)
filter_step n true w ws p h = (p, h)
filter_step n false w ws p h = h

filtered : (n : ℤ) (p : Window → Bool) (ws : List Window) → AreBelow n ws → AreBelow n (filter p ws)
filtered n p [] h = tt
filtered n p (w ∷ ws) h = filter_step n (p w) w (filter p ws) h.0 (filtered n p ws h.1)

pushed : (n : ℤ) (ws : List Window) (w : Window) → AreBelow n ws → w.buffer <ℤ n → AreBelow n (ws ++ w ∷ [])
pushed n [] w h p = (p, tt)
pushed n (v ∷ ws) w h p = (h.0, pushed n ws w h.1 p)

-- ---- operations
abbrev pub ShowBelow : Stage → Type 0
ShowBelow stage = AreBelow stage.next_buffer stage.workspace.windows

with_uis_below : (us : List Ui) (stage : Stage) → ShowBelow stage → ShowBelow (with_uis us stage)
with_uis_below [] stage h = h
with_uis_below (u ∷ us) stage h = h

spliced_below : (n : ℤ) (s : Splice) (o : Option ModelBuffer) (stage : Stage) → ShowBelow stage → ShowBelow (stage_spliced n s o stage)
spliced_below n s None stage h = h
spliced_below n s (Some b) stage h =
    mapped stage.next_buffer (λ w. if int_eq w.buffer n then view_moved (text_of b) s w else w) stage.workspace.windows
    (λ w p. either_below stage.next_buffer (int_eq w.buffer n) (view_moved (text_of b) s w) w p p) h

operation_below : (next : ℤ) (c : Operation) (m : ModelEditor) → next ≤ℤ m.stage.next_buffer → ShowsBelow next c → ShowBelow m.stage → ShowBelow (after_operation c m).stage
operation_below next (spliced n s) m low is h = spliced_below n s (at_handle m.buffers n) m.stage h
operation_below next (spliced_back n s) m low is h = spliced_below n s (at_handle m.buffers n) m.stage h
operation_below next (buffer_made listed) m low is h = raised m.stage.next_buffer (m.stage.next_buffer +ℤ pos 1) m.stage.workspace.windows (omega (arith, ints)) h
operation_below next (window_opened beside side b width height) m low is h =
    pushed m.stage.next_buffer m.stage.workspace.windows (window_on m.stage.workspace.next_window b) h (omega (arith, ints, low, is))
operation_below next (tab_made b) m low is h =
    pushed m.stage.next_buffer m.stage.workspace.windows (window_on m.stage.workspace.next_window b) h (omega (arith, ints, low, is))
operation_below next (window_closed w) m low is h = filtered m.stage.next_buffer _ m.stage.workspace.windows h
operation_below next (tab_closed t) m low is h = filtered m.stage.next_buffer _ m.stage.workspace.windows h
operation_below next (cursor_put n p) m low is h =
    mapped m.stage.next_buffer (λ w. if int_eq w.handle n then record w { cursor = p } else w) m.stage.workspace.windows
    (λ w q. either_below m.stage.next_buffer (int_eq w.handle n) (record w { cursor = p }) w q q) h
operation_below next (top_put n row) m low is h =
    mapped m.stage.next_buffer (λ w. if int_eq w.handle n then record w { top = row } else w) m.stage.workspace.windows
    (λ w q. either_below m.stage.next_buffer (int_eq w.handle n) (record w { top = row }) w q q) h
operation_below next (shown n b) m low is h =
    let there : b <ℤ m.stage.next_buffer = omega (arith, ints, low, is) in
    mapped m.stage.next_buffer (λ w. if int_eq w.handle n then window_on w.handle b else w) m.stage.workspace.windows
    (λ w q. either_below m.stage.next_buffer (int_eq w.handle n) (window_on w.handle b) w there q) h
operation_below next (ui_put ui) m low is h = with_uis_below (ui_among ui m.stage.uis) m.stage h
operation_below next (uis_dropped sessions) m low is h = with_uis_below (other_uis sessions m.stage.uis) m.stage h
operation_below next c m low is h = h

operations_below : (next : ℤ) (cs : List Operation) (m : ModelEditor) → next ≤ℤ m.stage.next_buffer → AllShowBelow next cs → ShowBelow m.stage → ShowBelow (after_operations cs m).stage
operations_below next [] m low are h = h
operations_below next (c ∷ cs) m low are h =
    let rise = next_rises c m in
    operations_below next cs (after_operation c m) (omega (arith, ints, low, rise)) are.1 (operation_below next c m low are.0 h)

-- ---- editors
-- handles are numbered, and windows show none that isn't given yet
abbrev pub IsPlaced : ModelEditor → Type 0
IsPlaced m = IsNumbered m × ShowBelow m.stage

stay_numbered : (cs : List Operation) (m : ModelEditor) → IsNumbered m → IsNumbered (after_operations cs m)
stay_numbered [] m is = is
stay_numbered (c ∷ cs) m is = stay_numbered cs (after_operation c m) (stays_below c m is)

pub operations_placed : (next : ℤ) (cs : List Operation) (m : ModelEditor) → next ≤ℤ m.stage.next_buffer → AllShowBelow next cs → IsPlaced m → IsPlaced (after_operations cs m)
operations_placed next cs m low are placed = (stay_numbered cs m placed.0, operations_below next cs m low are placed.1)

pub still_placed : (cs : List Operation) (m : ModelEditor) → AllStill cs → IsPlaced m → IsPlaced (after_operations cs m)
still_placed cs m are placed = operations_placed m.stage.next_buffer cs m (omega (arith, ints)) (all_still_below m.stage.next_buffer cs are) placed
