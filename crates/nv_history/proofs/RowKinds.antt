-- The kinds of operations that leave tabpages, trees and UIs, that show no buffer, and that change
-- nothing that is shown.
use Rattle.std.proofs.Common.{◌≡◌, Bool, true, false, List, [], ◌∷◌}
use Rattle.std.specs.List.{AllByRecursion, list_all}
use Rattle.std.proofs.lemmas.Bool.{false≢true}
use Rattle.nv_model.specs.Editors.{ModelEditor}
use Rattle.nv_model.specs.Operations.{Operation, buffer_made, namespace_made, group_made, window_opened, window_closed, tab_made, tab_closed, went_to_window, went_to_tab, shown, ui_put, uis_dropped, after_operation, after_operations}
use Rattle.nv_model.specs.Kinds.{OperationKind, makes_buffers, makes_namespaces, makes_groups, opens_windows, closes_windows, makes_tabs, closes_tabs, goes, shows_buffers, puts_uis, drops_uis, Effects, AreMade, kind_of_operation}
use Rattle.nv_model.proofs.Making.{by_kinds}
use Rattle.nv_history.proofs.LooksOn.{LooksOn, looks_same, looks_then, looks_buffer_made, looks_namespace_made, looks_group_made}
use Rattle.nv_history.proofs.SafeStages.{IsHarmless, AllHarmless}
use Rattle.nv_history.proofs.UisStand.{AreStanding}
use Rattle.nv_history.proofs.WindowBuffers.{IsStill, AllStill}

-- ---- harmless ones
abbrev pub is_harmless : OperationKind → Bool
is_harmless opens_windows = false
is_harmless closes_windows = false
is_harmless makes_tabs = false
is_harmless closes_tabs = false
is_harmless goes = false
is_harmless puts_uis = false
is_harmless drops_uis = false
is_harmless _ = true

are_harmless : (c : Operation) → is_harmless (kind_of_operation c) ≡ true → IsHarmless c
are_harmless (window_opened beside side buffer width height) e = absurd (false≢true e)
are_harmless (window_closed w) e = absurd (false≢true e)
are_harmless (tab_made buffer) e = absurd (false≢true e)
are_harmless (tab_closed t) e = absurd (false≢true e)
are_harmless (went_to_window w) e = absurd (false≢true e)
are_harmless (went_to_tab t) e = absurd (false≢true e)
are_harmless (ui_put ui) e = absurd (false≢true e)
are_harmless (uis_dropped sessions) e = absurd (false≢true e)
are_harmless c e = tt

pub all_harmless : (e : Effects) (operations : List Operation) → list_all is_harmless e.makes ≡ true → AreMade e operations → AllHarmless operations
all_harmless e operations all made = by_kinds kind_of_operation is_harmless IsHarmless are_harmless e.makes all operations made

-- ---- still ones
abbrev pub is_still : OperationKind → Bool
is_still shows_buffers = false
is_still opens_windows = false
is_still makes_tabs = false
is_still _ = true

are_still : (c : Operation) → is_still (kind_of_operation c) ≡ true → IsStill c
are_still (shown w buffer) e = absurd (false≢true e)
are_still (window_opened beside side buffer width height) e = absurd (false≢true e)
are_still (tab_made buffer) e = absurd (false≢true e)
are_still c e = tt

pub all_still : (e : Effects) (operations : List Operation) → list_all is_still e.makes ≡ true → AreMade e operations → AllStill operations
all_still e operations all made = by_kinds kind_of_operation is_still IsStill are_still e.makes all operations made

-- ---- calm ones
abbrev pub is_calm : OperationKind → Bool
is_calm makes_buffers = true
is_calm makes_namespaces = true
is_calm makes_groups = true
is_calm _ = false

-- an operation changes nothing that is shown
abbrev IsCalmOperation : Operation → Type 0
IsCalmOperation c = (m : ModelEditor) → AreStanding m.stage → LooksOn m (after_operation c m)

are_calm : (c : Operation) → is_calm (kind_of_operation c) ≡ true → IsCalmOperation c
are_calm (buffer_made listed) e = λ m stands. looks_buffer_made m listed stands
are_calm (namespace_made name) e = λ m stands. looks_namespace_made m name stands
are_calm (group_made name) e = λ m stands. looks_group_made m name stands
are_calm c e = absurd (false≢true e)

looks_all : (operations : List Operation) → AllByRecursion IsCalmOperation operations → (m : ModelEditor) → AreStanding m.stage → LooksOn m (after_operations operations m)
looks_all [] are m stands = looks_same m stands
looks_all (c ∷ cs) are m stands =
    let first = are.0 m stands in
    looks_then m (after_operation c m) (after_operations cs (after_operation c m)) first (looks_all cs are.1 (after_operation c m) first.stands)

pub all_calm : (e : Effects) (operations : List Operation) → list_all is_calm e.makes ≡ true → AreMade e operations
    → (m : ModelEditor) → AreStanding m.stage → LooksOn m (after_operations operations m)
all_calm e operations all made = looks_all operations (by_kinds kind_of_operation is_calm IsCalmOperation are_calm e.makes all operations made)
