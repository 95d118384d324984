-- Each row keeps handles numbered, and shows no buffer that isn't given yet.
use Rattle.std.proofs.Common.{◌≡◌, refl, subst, arith, ℕ, ℤ, pos, ◌+ℤ◌, ◌<ℤ◌, ◌≤ℤ◌, Bool, true, false, List, [], ◌∷◌, ◌++◌, slice_get, All, Option, Some, None}
use Rattle.std.specs.Prelude.{if◌then◌else◌, option_map}
use Rattle.std.specs.List.{list_all}
use Rattle.std.specs.Ordering.{int_eq}
use Rattle.std.proofs.lemmas.Int.{ints}
use Rattle.std.proofs.lemmas.List.Elements.{All-head, All-tail}
use Rattle.std.proofs.lemmas.Option.{none-some, same_Some}
use Rattle.nv_value.specs.Content.{Tree, nil}
use Rattle.nv_value.specs.declared.fault.ApiFault.{ApiFault}
use Rattle.nv_args.specs.Faults.{limit_reached, no_id_left, last_one, unknown_name}
use Rattle.nv_args.specs.Reading.{Arg, number_at, string_at}
use Rattle.nv_windows.specs.Operations.{has_one_tabpage}
use Rattle.nv_windows.specs.Workspace.{current_buffer, current_window, showing}
use Rattle.nv_windows.specs.declared.window.Window.{Window}
use Rattle.nv_model.specs.Buffers.{ModelBuffer}
use Rattle.nv_model.specs.Editors.{ModelEditor, at_handle, handles_of}
use Rattle.nv_model.specs.Seen.{SeenBuffer, seen_buffer, seen_of}
use Rattle.nv_model.specs.Stage.{Stage, or_current}
use Rattle.nv_model.specs.Operations.{Operation, buffer_made, buffer_dropped, shown, tab_made, tab_closed, after_operation, after_operations}
use Rattle.nv_model.specs.Answers.{Answer, Fact, quit, refused, replied, unless, or_refused, on_buffer, on_window}
use Rattle.nv_model.specs.Answering.{fault_or}
use Rattle.nv_model.specs.Deleting.{other_handles, least_other, showing_operations, dropping_operations}
use Rattle.nv_model.specs.Kinds.{Effects, MakesOnly, HasEffects}
use Rattle.nv_model.specs.Rows.{Row}
use Rattle.nv_model.proofs.AnswersTell.{keeps_unless, keeps_or_refused, keeps_barred}
use Rattle.nv_api_buf.specs.BufferRows.{nvim_set_current_buf, nvim_buf_delete}
use Rattle.nv_api_buf.specs.CommandRows.{no_tab_left, tabs_are_full, command_answer, nvim_command}
use Rattle.nv_api_buf.proofs.RowsMake.{undoing, undo_makes, redo_makes, undo_to_makes}
use Rattle.nv_api_buf.specs.Commands.{Command, undo, redo, undo_to, tabnew, tabclose, quit_all, command_of}
use Rattle.nv_api_win.specs.WindowRows.{opening_operations, nvim_open_win, nvim_win_set_buf}
use Rattle.nv_history.proofs.GoneBuffers.{live_below}
use Rattle.nv_history.proofs.RowKinds.{is_still, all_still}
use Rattle.nv_history.proofs.WindowBuffers.{AllShowBelow, IsPlaced, operations_placed, still_placed}

unfoldable pub IsPlacedAfter : ModelEditor → Answer → Type 0
IsPlacedAfter m (refused fault) = Unit {0}
IsPlacedAfter m (replied t operations facts) = IsPlaced (after_operations operations m)

abbrev pub PlacedRow : Row → Type 0
PlacedRow row = (m : ModelEditor) → IsPlaced m → (session : ℕ) (args : List Arg) → IsPlacedAfter m (row (seen_of m) session args)

placed_fault : (m : ModelEditor) (f : ApiFault) → IsPlacedAfter m (refused f)
unfolding IsPlacedAfter
placed_fault m f = tt

placed_done : (m : ModelEditor) (t : Tree) (operations : List Operation) (facts : List Fact) → IsPlaced (after_operations operations m) → IsPlacedAfter m (replied t operations facts)
unfolding IsPlacedAfter
placed_done m t operations facts h = h

-- operations of kinds that show no buffer
answer_placed : (e : Effects) → list_all is_still e.makes ≡ true → (m : ModelEditor) → IsPlaced m → (a : Answer) → MakesOnly e a → IsPlacedAfter m a
unfolding IsPlacedAfter MakesOnly
answer_placed e all m placed (refused f) h = tt
answer_placed e all m placed (replied t operations facts) h = still_placed operations m (all_still e operations all h.0) placed

pub by_still : (e : Effects) (row : Row) → list_all is_still e.makes ≡ true → HasEffects e row → PlacedRow row
by_still e row all h = λ m placed session args. answer_placed e all m placed (row (seen_of m) session args) (h (seen_of m) session args)

placed_unless : (m : ModelEditor) (fs : List (Bool × ApiFault)) (a : Answer) → IsPlacedAfter m a → IsPlacedAfter m (unless fs a)
placed_unless m fs a = keeps_unless (IsPlacedAfter m) (placed_fault m) fs a

placed_barred : (m : ModelEditor) (o : Option ApiFault) (a : Answer) → IsPlacedAfter m a → IsPlacedAfter m (fault_or o a)
placed_barred m o a = keeps_barred (IsPlacedAfter m) (placed_fault m) o a

placed_found : (m : ModelEditor) (A : Type 0) (o : Option A) (f : ApiFault) (next : A → Answer) → ((a : A) → o ≡ Some a → IsPlacedAfter m (next a)) → IsPlacedAfter m (or_refused o f next)
placed_found m A o f next h = keeps_or_refused (IsPlacedAfter m) (placed_fault m) o f next h

placed_on_window : (m : ModelEditor) (n : ℤ) (next : Window → Answer) → ((w : Window) → IsPlacedAfter m (next w)) → IsPlacedAfter m (on_window (seen_of m) n next)
placed_on_window m n next h = keeps_or_refused (IsPlacedAfter m) (placed_fault m) _ _ _ (λ w is. h w)

-- a live buffer has a handle below the next one
live_by : (m : ModelEditor) → IsPlaced m → (k : ℤ) (o : Option ModelBuffer) (b : SeenBuffer) → at_handle m.buffers k ≡ o → option_map seen_buffer o ≡ Some b → k <ℤ m.stage.next_buffer
live_by m placed k None b there is = absurd (none-some b is)
live_by m placed k (Some c) b there is = live_below m.stage.next_buffer k m.buffers c placed.0.buffers there

placed_on_buffer : (m : ModelEditor) → IsPlaced m → (n : ℤ) (next : ℤ → SeenBuffer → Answer) → ((k : ℤ) (b : SeenBuffer) → k <ℤ m.stage.next_buffer → IsPlacedAfter m (next k b))
    → IsPlacedAfter m (on_buffer (seen_of m) n next)
placed_on_buffer m placed n next h =
    keeps_or_refused (IsPlacedAfter m) (placed_fault m) _ _ _
    (λ b is. h (or_current (current_buffer m.stage.workspace) n) b
    (live_by m placed (or_current (current_buffer m.stage.workspace) n) (at_handle m.buffers (or_current (current_buffer m.stage.workspace) n)) b refl is))

same_next : (n : ℤ) → n ≤ℤ n
same_next n = omega (arith, ints)

shows_placed : (m : ModelEditor) → IsPlaced m → (t : Tree) (w n : ℤ) → n <ℤ m.stage.next_buffer → IsPlacedAfter m (replied t (shown w n ∷ []) [])
shows_placed m placed t w n low =
    placed_done m t (shown w n ∷ []) [] (operations_placed m.stage.next_buffer (shown w n ∷ []) m (same_next m.stage.next_buffer) (low, tt) placed)

pub set_current_buf_placed : PlacedRow nvim_set_current_buf
set_current_buf_placed m placed session args =
    placed_on_buffer m placed (number_at args 0) (λ n b. replied nil (shown (current_window m.stage.workspace) n ∷ []) [])
    (λ n b low. shows_placed m placed nil (current_window m.stage.workspace) n low)

pub win_set_buf_placed : PlacedRow nvim_win_set_buf
win_set_buf_placed m placed session args =
    placed_on_buffer m placed (number_at args 1) (λ n b. on_window (seen_of m) (number_at args 0) (λ w. replied nil (shown w.handle n ∷ []) []))
    (λ n b low. placed_on_window m (number_at args 0) (λ w. replied nil (shown w.handle n ∷ []) []) (λ w. shows_placed m placed nil w.handle n low))

opened_below : (stage : Stage) (n beside : ℤ) (enter : Bool) (pairs : List (Tree × Tree)) (next : ℤ) → n <ℤ next → AllShowBelow next (opening_operations stage n beside enter pairs)
opened_below stage n beside true pairs next low = (low, (tt, tt))
opened_below stage n beside false pairs next low = (low, tt)

opens_placed : (m : ModelEditor) → IsPlaced m → (t : Tree) (n : ℤ) (enter : Bool) (pairs : List (Tree × Tree)) (w : Window) → n <ℤ m.stage.next_buffer
    → IsPlacedAfter m (replied t (opening_operations m.stage n w.handle enter pairs) [])
opens_placed m placed t n enter pairs w low =
    placed_done m t (opening_operations m.stage n w.handle enter pairs) []
    (operations_placed m.stage.next_buffer (opening_operations m.stage n w.handle enter pairs) m (same_next m.stage.next_buffer)
    (opened_below m.stage n w.handle enter pairs m.stage.next_buffer low) placed)

pub open_win_placed : PlacedRow nvim_open_win
open_win_placed m placed session args = search (placed_on_buffer, placed_on_window, placed_barred, placed_unless, opens_placed) depth 9

-- ---- a buffer is deleted
others_below : (next n : ℤ) (es : List (ℤ × ModelBuffer)) → All (λ (e : ℤ × ModelBuffer). e.0 <ℤ next) es → (k : ℤ) → slice_get (other_handles n (handles_of es)) 0 ≡ Some k → k <ℤ next
others_below next n [] all k e = absurd (none-some k e)
others_below next n (x ∷ es) all k e = by_case (int_eq x.0 n) (others_below next n es (All-tail (λ (d : ℤ × ModelBuffer). d.0 <ℤ next) x es all) k) e
  where
    by_case : (b : Bool) → (slice_get (other_handles n (handles_of es)) 0 ≡ Some k → k <ℤ next)
        → slice_get (if b then other_handles n (handles_of es) else x.0 ∷ other_handles n (handles_of es)) 0 ≡ Some k → k <ℤ next
    by_case true rest f = rest f
    by_case false rest f = subst (λ (j : ℤ). j <ℤ next) (same_Some x.0 k f) (All-head (λ (d : ℤ × ModelBuffer). d.0 <ℤ next) x es all)

showing_below : (next n k : ℤ) (ws : List Window) → k <ℤ next → AllShowBelow next (showing_operations k ws ++ buffer_dropped n ∷ [])
showing_below next n k [] low = (tt, tt)
showing_below next n k (w ∷ ws) low = (low, showing_below next n k ws low)

drops_by : (m : ModelEditor) → IsPlaced m → (n : ℤ) (o : Option ℤ) → least_other (seen_of m) n ≡ o → IsPlaced (after_operations (dropping_operations m.stage n o) m)
drops_by m placed n (Some other) e =
    operations_placed m.stage.next_buffer (showing_operations other (showing n m.stage.workspace.windows) ++ buffer_dropped n ∷ []) m (same_next m.stage.next_buffer)
    (showing_below m.stage.next_buffer n other (showing n m.stage.workspace.windows) (others_below m.stage.next_buffer n m.buffers placed.0.buffers other e)) placed
drops_by m placed n None e =
    let low : m.stage.next_buffer <ℤ (m.stage.next_buffer +ℤ pos 1) = omega (arith, ints) in
    let made : IsPlaced (after_operation (buffer_made true) m) =
    operations_placed m.stage.next_buffer (buffer_made true ∷ []) m (same_next m.stage.next_buffer) (tt, tt) placed in
    operations_placed (m.stage.next_buffer +ℤ pos 1) (showing_operations m.stage.next_buffer (showing n m.stage.workspace.windows) ++ buffer_dropped n ∷ []) (after_operation (buffer_made true) m)
    (same_next (m.stage.next_buffer +ℤ pos 1)) (showing_below (m.stage.next_buffer +ℤ pos 1) n m.stage.next_buffer (showing n m.stage.workspace.windows) low) made

drops_placed : (m : ModelEditor) → IsPlaced m → (t : Tree) (n : ℤ) (facts : List Fact) → IsPlacedAfter m (replied t (dropping_operations m.stage n (least_other (seen_of m) n)) facts)
drops_placed m placed t n facts = placed_done m t (dropping_operations m.stage n (least_other (seen_of m) n)) facts (drops_by m placed n (least_other (seen_of m) n) refl)

pub delete_buf_placed : PlacedRow nvim_buf_delete
delete_buf_placed m placed session args = search (placed_on_buffer, placed_barred, placed_unless, drops_placed) depth 9

-- ---- commands
tabnew_placed : (m : ModelEditor) → IsPlaced m → IsPlacedAfter m (command_answer (seen_of m) tabnew)
tabnew_placed m placed =
    let low : m.stage.next_buffer <ℤ (m.stage.next_buffer +ℤ pos 1) = omega (arith, ints) in
    let made : IsPlaced (after_operation (buffer_made true) m) =
    operations_placed m.stage.next_buffer (buffer_made true ∷ []) m (same_next m.stage.next_buffer) (tt, tt) placed in
    placed_unless m ((no_tab_left m.stage, no_id_left) ∷ (tabs_are_full (seen_of m), limit_reached) ∷ []) (replied nil (buffer_made true ∷ tab_made m.stage.next_buffer ∷ []) [])
    (placed_done m nil (buffer_made true ∷ tab_made m.stage.next_buffer ∷ []) []
    (operations_placed (m.stage.next_buffer +ℤ pos 1) (tab_made m.stage.next_buffer ∷ []) (after_operation (buffer_made true) m) (same_next (m.stage.next_buffer +ℤ pos 1)) (low, tt) made))

command_placed : (m : ModelEditor) → IsPlaced m → (c : Command) → IsPlacedAfter m (command_answer (seen_of m) c)
command_placed m placed undo = answer_placed undoing refl m placed (command_answer (seen_of m) undo) (undo_makes (seen_of m))
command_placed m placed redo = answer_placed undoing refl m placed (command_answer (seen_of m) redo) (redo_makes (seen_of m))
command_placed m placed (undo_to k) = answer_placed undoing refl m placed (command_answer (seen_of m) (undo_to k)) (undo_to_makes (seen_of m) k)
command_placed m placed tabnew = tabnew_placed m placed
command_placed m placed tabclose =
    placed_unless m ((has_one_tabpage m.stage.workspace, last_one) ∷ []) (replied nil (tab_closed m.stage.workspace.tabpage ∷ []) [])
    (placed_done m nil (tab_closed m.stage.workspace.tabpage ∷ []) [] (still_placed (tab_closed m.stage.workspace.tabpage ∷ []) m (tt, tt) placed))
command_placed m placed quit_all = placed_done m nil [] (quit ∷ []) placed

pub nvim_command_placed : PlacedRow nvim_command
nvim_command_placed m placed session args =
    placed_found m Command (command_of (string_at args 0)) (unknown_name (string_at args 0)) (command_answer (seen_of m)) (λ c e. command_placed m placed c)
