-- Each row keeps windows sound, and the screen at the least size of the UIs.
use Rattle.std.proofs.Common.{◌≡◌, refl, sym, ap, ◌∙◌, subst, arith, ℕ, ℤ, pos, negsuc, ◌+◌, ◌<◌, ◌≤◌, ◌^◌, Bool, true, false, not, cond, List, [], ◌∷◌, map, All, Option, Some, None}
use Rattle.std.specs.Prelude.{if◌then◌else◌, is_some, ◌==◌, ◌&&◌, ◌||◌, nat_le, find, option_map, option_and_then}
use Rattle.std.specs.List.{list_all}
use Rattle.std.specs.Ordering.{int_eq}
use Rattle.std.proofs.lemmas.List.Elements.{All-head, All-tail}
use Rattle.std.proofs.lemmas.Option.{none-some, same_Some}
use Rattle.std.proofs.lemmas.Bool.Decides.{nat_tests}
use Rattle.nv_value.specs.Content.{Tree, nil}
use Rattle.nv_value.specs.declared.fault.ApiFault.{ApiFault}
use Rattle.nv_args.specs.Arguments.{last_pairs}
use Rattle.nv_args.specs.Faults.{not_attached, out_of_bounds, no_room, limit_reached, already_attached, last_one, no_id_left, unknown_name, no_window, no_tabpage}
use Rattle.nv_args.specs.KeyValues.{number_between}
use Rattle.nv_args.specs.Maps.{map_fault}
use Rattle.nv_args.specs.Reading.{Arg, number_at, string_at, pairs_at, object_at}
use Rattle.nv_layout.specs.declared.nodes.Side.{Side}
use Rattle.nv_windows.specs.Operations.{has_one_tabpage, with_window, entered_where}
use Rattle.nv_windows.specs.Rooms.{has_one_window, has_room_beside, has_window_left, has_handles_left}
use Rattle.nv_windows.specs.Sound.{IsSoundWorkspace, times_among, handles_of_tabpages}
use Rattle.nv_windows.specs.Workspace.{Page, Workspace, current_window, window_at, tabpage_at, tabpage_of}
use Rattle.nv_windows.specs.declared.window.Window.{Window}
use Rattle.nv_windows.proofs.SoundClosing.{without_window_sound}
use Rattle.nv_windows.proofs.SoundLaws.{opening_sound}
use Rattle.nv_windows.proofs.Soundness.{live_home, at_window_sound, at_tabpage_sound}
use Rattle.nv_windows.proofs.SoundTabs.{with_tabpage_sound, without_tabpage_sound}
use Rattle.nv_model.specs.Editors.{ModelEditor}
use Rattle.nv_model.specs.Seen.{Seen, SeenBuffer, seen_of}
use Rattle.nv_model.specs.Stage.{Stage, or_current}
use Rattle.nv_model.specs.Operations.{Operation, buffer_made, tab_made, tab_closed, window_closed, went_to_window, went_to_tab, ui_put, uis_dropped, after_operations}
use Rattle.nv_model.specs.Answers.{Answer, Fact, quit, refused, replied, unless, or_refused, on_buffer, on_window}
use Rattle.nv_model.specs.Answering.{fault_or}
use Rattle.nv_model.specs.Deleting.{no_buffer_left}
use Rattle.nv_model.specs.Kinds.{Effects, MakesOnly, HasEffects}
use Rattle.nv_model.specs.Rows.{Row}
use Rattle.nv_model.specs.declared.parts.Ui.{Ui}
use Rattle.nv_model.proofs.AnswersTell.{keeps_or_refused, keeps_barred}
use Rattle.nv_model.proofs.Lookups.{same_int, int_eq-itself}
use Rattle.nv_editor.specs.Uis.{HasScreenSize, AreSoundUis, IsLeastSize, has_ui, ui_fits}
use Rattle.nv_editor.proofs.UiSizes.{put_sound}
use Rattle.nv_api_buf.specs.CommandRows.{no_tab_left, tabs_are_full, command_answer, nvim_command}
use Rattle.nv_api_buf.proofs.RowsMake.{undoing, undo_makes, redo_makes, undo_to_makes}
use Rattle.nv_api_buf.specs.Commands.{Command, undo, redo, undo_to, tabnew, tabclose, quit_all, command_of}
use Rattle.nv_api_win.specs.Opening.{side_of, wished_width, wished_height}
use Rattle.nv_api_win.specs.WindowRows.{opening_operations, closing_answer, windows_are_full, nvim_set_current_win, nvim_open_win, nvim_win_close}
use Rattle.nv_api_win.specs.TabpageRows.{nvim_set_current_tabpage}
use Rattle.nv_api_ui.specs.UiOptions.{ui_keys, attached_ui, ui_option_fault, with_ui_option}
use Rattle.nv_api_ui.specs.UiRows.{ui_of, ui_or_new, uis_are_full, sized_ui, attaching_answer, resizing_answer, setting_answer, nvim_ui_attach, nvim_ui_detach, nvim_ui_try_resize, nvim_ui_set_option}
use Rattle.nv_history.proofs.CalmRows.{option_of, found_session}
use Rattle.nv_history.proofs.RowKinds.{is_harmless, all_harmless}
use Rattle.nv_history.proofs.SafeStages.{IsSafeStage, all_harmless_safe, ui_put_safe, uis_dropped_safe}
use Rattle.nv_history.proofs.UisStand.{AreStanding, IsLeastOf, put_keeps_size}

-- an answer behind which windows are sound
unfoldable pub IsSafe : ModelEditor → Answer → Type 0
IsSafe m (refused fault) = Unit {0}
IsSafe m (replied t operations facts) = IsSafeStage (after_operations operations m).stage

abbrev pub SafeRow : Row → Type 0
SafeRow row = (m : ModelEditor) → IsSafeStage m.stage → (session : ℕ) (args : List Arg) → IsSafe m (row (seen_of m) session args)

-- ---- the words that rows are made of
safe_fault : (m : ModelEditor) (f : ApiFault) → IsSafe m (refused f)
unfolding IsSafe
safe_fault m f = tt

safe_done : (m : ModelEditor) (t : Tree) (operations : List Operation) (facts : List Fact) → IsSafeStage (after_operations operations m).stage → IsSafe m (replied t operations facts)
unfolding IsSafe
safe_done m t operations facts h = h

-- operations of harmless kinds
answer_safe : (e : Effects) → list_all is_harmless e.makes ≡ true → (m : ModelEditor) → IsSafeStage m.stage → (a : Answer) → MakesOnly e a → IsSafe m a
unfolding IsSafe MakesOnly
answer_safe e all m safe (refused f) h = tt
answer_safe e all m safe (replied t operations facts) h = all_harmless_safe operations (all_harmless e operations all h.0) m safe

pub by_harmless : (e : Effects) (row : Row) → list_all is_harmless e.makes ≡ true → HasEffects e row → SafeRow row
by_harmless e row all h = λ m safe session args. answer_safe e all m safe (row (seen_of m) session args) (h (seen_of m) session args)

-- conditions none of which holds
abbrev AllFail : List (Bool × ApiFault) → Type 0
AllFail [] = Unit {0}
AllFail (f ∷ fs) = (f.0 ≡ false) × AllFail fs

safe_test : (m : ModelEditor) (c b : Bool) (f : ApiFault) (a : Answer) → c ≡ b → (c ≡ false → IsSafe m a) → IsSafe m (if b then refused f else a)
safe_test m c true f a e h = safe_fault m f
safe_test m c false f a e h = h e

safe_unless : (m : ModelEditor) (fs : List (Bool × ApiFault)) (a : Answer) → (AllFail fs → IsSafe m a) → IsSafe m (unless fs a)
safe_unless m [] a h = h tt
safe_unless m (f ∷ fs) a h = safe_test m f.0 f.0 f.1 (unless fs a) refl (λ e. safe_unless m fs a (λ es. h (e, es)))

safe_barred : (m : ModelEditor) (o : Option ApiFault) (a : Answer) → IsSafe m a → IsSafe m (fault_or o a)
safe_barred m o a = keeps_barred (IsSafe m) (safe_fault m) o a

safe_found : (m : ModelEditor) (A : Type 0) (o : Option A) (f : ApiFault) (next : A → Answer) → ((a : A) → o ≡ Some a → IsSafe m (next a)) → IsSafe m (or_refused o f next)
safe_found m A o f next h = keeps_or_refused (IsSafe m) (safe_fault m) o f next h

safe_on_buffer : (m : ModelEditor) (s : Seen) (n : ℤ) (next : ℤ → SeenBuffer → Answer) → ((k : ℤ) (b : SeenBuffer) → IsSafe m (next k b)) → IsSafe m (on_buffer s n next)
safe_on_buffer m s n next h = keeps_or_refused (IsSafe m) (safe_fault m) _ _ _ (λ b is. h _ b)

holds_then : (b : Bool) → not b ≡ false → b ≡ true
holds_then true e = refl
holds_then false e = absurd cc

second_false : (a b : Bool) → (a || b) ≡ false → b ≡ false
second_false true b e = absurd cc
second_false false b e = e

both_true : (a b : Bool) → a ≡ true → b ≡ true → (a && b) ≡ true
both_true true b e f = f
both_true false b e f = absurd cc

-- ---- windows
passes_step : {A : Type 0} (p : A → Bool) (x m : A) (rest : Option A) (b : Bool) → p x ≡ b → cond b (Some x) rest ≡ Some m → (rest ≡ Some m → p m ≡ true) → p m ≡ true
passes_step p x m rest true is e more = subst (λ y. p y ≡ true) (same_Some x m e) is
passes_step p x m rest false is e more = more e

passes : {A : Type 0} (p : A → Bool) (xs : List A) (m : A) → find p xs ≡ Some m → p m ≡ true
passes p [] m e = absurd (none-some m e)
passes p (x ∷ xs) m e = passes_step p x m (find p xs) (p x) refl e (λ f. passes p xs m f)

is_there : (ws : Workspace) (k : ℤ) (w : Window) → window_at ws k ≡ Some w → is_some (window_at ws w.handle) ≡ true
is_there ws k w e =
    let same : w.handle ≡ k = same_int w.handle k (passes (λ (v : Window). int_eq v.handle k) ws.windows w e) in
    ap is_some (ap (window_at ws) same ∙ e)

goes_safe : (m : ModelEditor) → IsSafeStage m.stage → (k : ℤ) (w : Window) → window_at m.stage.workspace k ≡ Some w → IsSafe m (replied nil (went_to_window w.handle ∷ []) [])
goes_safe m safe k w e =
    safe_done m nil (went_to_window w.handle ∷ []) []
    (at_window_sound m.stage.workspace w.handle (live_home m.stage.workspace w.handle safe.0 (is_there m.stage.workspace k w e)) safe.0, safe.1)

pub set_current_win_safe : SafeRow nvim_set_current_win
set_current_win_safe m safe session args =
    safe_found m Window (window_at m.stage.workspace (or_current (current_window m.stage.workspace) (number_at args 0))) (no_window (number_at args 0))
    (λ w. replied nil (went_to_window w.handle ∷ []) [])
    (λ w e. goes_safe m safe (or_current (current_window m.stage.workspace) (number_at args 0)) w e)

opened_sound : (ws : Workspace) (beside : ℤ) (side : Side) (buffer : ℤ) (width height : ℕ) (enter : Bool) → has_window_left ws ≡ true → has_room_beside ws beside side ≡ true → IsSoundWorkspace ws
    → IsSoundWorkspace (entered_where enter ws.next_window (with_window beside side buffer width height ws))
opened_sound ws beside side buffer width height enter left room sound =
    subst (λ (c : Bool). IsSoundWorkspace (if c then entered_where enter ws.next_window (with_window beside side buffer width height ws) else ws))
    (both_true (has_window_left ws) (has_room_beside ws beside side) left room) (opening_sound ws beside side buffer width height enter sound)

opened_safe : (m : ModelEditor) (n beside : ℤ) (enter : Bool) (pairs : List (Tree × Tree)) → IsSafeStage m.stage → has_window_left m.stage.workspace ≡ true
    → has_room_beside m.stage.workspace beside (side_of pairs) ≡ true → IsSafeStage (after_operations (opening_operations m.stage n beside enter pairs) m).stage
opened_safe m n beside true pairs safe left room = (opened_sound m.stage.workspace beside (side_of pairs) n (wished_width pairs) (wished_height pairs) true left room safe.0, safe.1)
opened_safe m n beside false pairs safe left room = (opened_sound m.stage.workspace beside (side_of pairs) n (wished_width pairs) (wished_height pairs) false left room safe.0, safe.1)

opens_safe : (m : ModelEditor) → IsSafeStage m.stage → (t : Tree) (n : ℤ) (enter : Bool) (pairs : List (Tree × Tree)) (w : Window)
    → IsSafe m (unless (
    (not (has_window_left m.stage.workspace), no_id_left)
    ∷ (not (has_room_beside m.stage.workspace w.handle (side_of pairs)), no_room)
    ∷ (windows_are_full m.stage, limit_reached)
    ∷ []) (replied t (opening_operations m.stage n w.handle enter pairs) []))
opens_safe m safe t n enter pairs w =
    safe_unless m (
    (not (has_window_left m.stage.workspace), no_id_left)
    ∷ (not (has_room_beside m.stage.workspace w.handle (side_of pairs)), no_room)
    ∷ (windows_are_full m.stage, limit_reached)
    ∷ []) (replied t (opening_operations m.stage n w.handle enter pairs) [])
    (λ fail. safe_done m t (opening_operations m.stage n w.handle enter pairs) []
    (opened_safe m n w.handle enter pairs safe (holds_then (has_window_left m.stage.workspace) fail.0) (holds_then (has_room_beside m.stage.workspace w.handle (side_of pairs)) fail.1.0)))

safe_on_window : (m : ModelEditor) (n : ℤ) (next : Window → Answer) → ((w : Window) → IsSafe m (next w)) → IsSafe m (on_window (seen_of m) n next)
safe_on_window m n next h = keeps_or_refused (IsSafe m) (safe_fault m) _ _ _ (λ w is. h w)

pub open_win_safe : SafeRow nvim_open_win
open_win_safe m safe session args = search (safe_on_buffer, safe_on_window, safe_barred, opens_safe) depth 9

closing_safe : (m : ModelEditor) → IsSafeStage m.stage → (w : ℤ) (t : Page) → tabpage_of m.stage.workspace w ≡ Some t → (b : Bool) → has_one_window t ≡ b
    → IsSafe m (if b then unless ((has_one_tabpage m.stage.workspace, last_one) ∷ []) (replied nil (tab_closed t.handle ∷ []) []) else replied nil (window_closed w ∷ []) [])
closing_safe m safe w t found true is =
    safe_unless m ((has_one_tabpage m.stage.workspace, last_one) ∷ []) (replied nil (tab_closed t.handle ∷ []) [])
    (λ fail. safe_done m nil (tab_closed t.handle ∷ []) [] (without_tabpage_sound m.stage.workspace t.handle fail.0 safe.0, safe.1))
closing_safe m safe w t found false is = safe_done m nil (window_closed w ∷ []) [] (without_window_sound m.stage.workspace w t found is safe.0, safe.1)

closes_safe : (m : ModelEditor) → IsSafeStage m.stage → (w : Window) → IsSafe m (or_refused (tabpage_of m.stage.workspace w.handle) last_one (closing_answer m.stage.workspace w.handle))
closes_safe m safe w =
    safe_found m Page (tabpage_of m.stage.workspace w.handle) last_one (closing_answer m.stage.workspace w.handle) (λ t e. closing_safe m safe w.handle t e (has_one_window t) refl)

pub win_close_safe : SafeRow nvim_win_close
win_close_safe m safe session args = search (safe_on_window, closes_safe)

-- ---- tabpages
one_more : (n k : ℤ) (b : Bool) (rest : ℕ) → int_eq k n ≡ true → 0 < (if int_eq k n then 1 else 0) + rest
one_more n k b rest e = subst (λ (c : Bool). 0 < (if c then 1 else 0) + rest) (sym e) (omega arith)

or_more : (b : Bool) (rest : ℕ) → 0 < rest → 0 < (if b then 1 else 0) + rest
or_more true rest h = omega arith
or_more false rest h = omega (arith, h)

among_step : (k : ℤ) (x t : Page) (ts : List Page) (b : Bool) → int_eq x.handle k ≡ b → cond b (Some x) (find (λ (u : Page). int_eq u.handle k) ts) ≡ Some t
    → (find (λ (u : Page). int_eq u.handle k) ts ≡ Some t → 0 < times_among t.handle (handles_of_tabpages ts)) → 0 < times_among t.handle (handles_of_tabpages (x ∷ ts))
among_step k x t ts true is e more =
    let same : int_eq x.handle t.handle ≡ true = ap (λ (n : ℤ). int_eq x.handle n) (sym (ap (λ (u : Page). u.handle) (same_Some x t e))) ∙ int_eq-itself x.handle in
    one_more t.handle x.handle true (times_among t.handle (handles_of_tabpages ts)) same
among_step k x t ts false is e more = or_more (int_eq x.handle t.handle) (times_among t.handle (handles_of_tabpages ts)) (more e)

among_tabs : (k : ℤ) (t : Page) (ts : List Page) → find (λ (u : Page). int_eq u.handle k) ts ≡ Some t → 0 < times_among t.handle (handles_of_tabpages ts)
among_tabs k t [] e = absurd (none-some t e)
among_tabs k t (x ∷ ts) e = among_step k x t ts (int_eq x.handle k) refl e (λ f. among_tabs k t ts f)

pub set_current_tabpage_safe : SafeRow nvim_set_current_tabpage
set_current_tabpage_safe m safe session args =
    safe_found m Page (tabpage_at m.stage.workspace (or_current m.stage.workspace.tabpage (number_at args 0))) (no_tabpage (number_at args 0))
    (λ t. replied nil (went_to_tab t.handle ∷ []) [])
    (λ t e. safe_done m nil (went_to_tab t.handle ∷ []) []
    (at_tabpage_sound m.stage.workspace t.handle (among_tabs (or_current m.stage.workspace.tabpage (number_at args 0)) t m.stage.workspace.tabpages e) safe.0, safe.1))

-- ---- commands
tabnew_safe : (m : ModelEditor) → IsSafeStage m.stage → IsSafe m (command_answer (seen_of m) tabnew)
tabnew_safe m safe =
    safe_unless m ((no_tab_left m.stage, no_id_left) ∷ (tabs_are_full (seen_of m), limit_reached) ∷ []) (replied nil (buffer_made true ∷ tab_made m.stage.next_buffer ∷ []) [])
    (λ fail. safe_done m nil (buffer_made true ∷ tab_made m.stage.next_buffer ∷ []) [] (
      with_tabpage_sound m.stage.workspace m.stage.next_buffer
          (holds_then (has_handles_left m.stage.workspace) (second_false (no_buffer_left m.stage) (not (has_handles_left m.stage.workspace)) fail.0)) safe.0,
      safe.1,
    ))

tabclose_safe : (m : ModelEditor) → IsSafeStage m.stage → IsSafe m (command_answer (seen_of m) tabclose)
tabclose_safe m safe =
    safe_unless m ((has_one_tabpage m.stage.workspace, last_one) ∷ []) (replied nil (tab_closed m.stage.workspace.tabpage ∷ []) [])
    (λ fail. safe_done m nil (tab_closed m.stage.workspace.tabpage ∷ []) [] (without_tabpage_sound m.stage.workspace m.stage.workspace.tabpage fail.0 safe.0, safe.1))

command_safe : (m : ModelEditor) → IsSafeStage m.stage → (c : Command) → IsSafe m (command_answer (seen_of m) c)
command_safe m safe undo = answer_safe undoing refl m safe (command_answer (seen_of m) undo) (undo_makes (seen_of m))
command_safe m safe redo = answer_safe undoing refl m safe (command_answer (seen_of m) redo) (redo_makes (seen_of m))
command_safe m safe (undo_to k) = answer_safe undoing refl m safe (command_answer (seen_of m) (undo_to k)) (undo_to_makes (seen_of m) k)
command_safe m safe tabnew = tabnew_safe m safe
command_safe m safe tabclose = tabclose_safe m safe
command_safe m safe quit_all = safe_done m nil [] (quit ∷ []) safe

pub nvim_command_safe : SafeRow nvim_command
nvim_command_safe m safe session args =
    safe_found m Command (command_of (string_at args 0)) (unknown_name (string_at args 0)) (command_answer (seen_of m)) (λ c e. command_safe m safe c)

-- ---- UIs
most_step : (n high : ℕ) (a : Bool) (b : Bool) → nat_le n high ≡ b → (k : ℕ) → (if a && b then Some n else None) ≡ Some k → k ≤ high
most_step n high true true e k f = let same = same_Some n k f in let low : n ≤ high = grind (arith, nat_tests) in omega (arith, low, same)
most_step n high true false e k f = absurd (none-some k f)
most_step n high false b e k f = absurd (none-some k f)

number_most : (low high : ℕ) (n : ℤ) (k : ℕ) → number_between low high n ≡ Some k → k ≤ high
number_most low high (pos n) k e = most_step n high (nat_le low n) (nat_le n high) refl k e
number_most low high (negsuc n) k e = absurd (none-some k e)

narrow_by : (base ui : Ui) (o p : Option ℕ) → ((k : ℕ) → o ≡ Some k → k ≤ 2000) → ((k : ℕ) → p ≡ Some k → k ≤ 1000)
    → option_and_then (λ (u : Ui). option_map (λ height. record u { height = height }) p) (option_map (λ width. record base { width = width }) o) ≡ Some ui → HasScreenSize ui
narrow_by base ui None p wide high e = absurd (none-some ui e)
narrow_by base ui (Some w) None wide high e = absurd (none-some ui e)
narrow_by base ui (Some w) (Some h) wide high e =
    let a = wide w refl in
    let b = high h refl in
    let few : w < 2 ^ 16 = omega (arith, a) in
    let low : h < 2 ^ 16 = omega (arith, b) in
    subst (λ (u : Ui). HasScreenSize u) (same_Some (record base { width = w; height = h }) ui e) (few, low)

sized_narrow : (args : List Arg) (base ui : Ui) → sized_ui args base ≡ Some ui → HasScreenSize ui
sized_narrow args base ui e =
    narrow_by base ui (number_between 1 2000 (number_at args 0)) (number_between 1 1000 (number_at args 1)) (number_most 1 2000 (number_at args 0)) (number_most 1 1000 (number_at args 1)) e

put_safe : (m : ModelEditor) → IsSafeStage m.stage → (ui : Ui) (fs : List (Bool × ApiFault)) → HasScreenSize ui
    → IsSafe m (unless ((not (ui_fits ui m.stage), no_room) ∷ fs) (replied nil (ui_put ui ∷ []) []))
put_safe m safe ui fs narrow =
    safe_unless m ((not (ui_fits ui m.stage), no_room) ∷ fs) (replied nil (ui_put ui ∷ []) [])
    (λ fail. safe_done m nil (ui_put ui ∷ []) [] (ui_put_safe ui m narrow (holds_then (ui_fits ui m.stage) fail.0) safe))

pub ui_attach_safe : SafeRow nvim_ui_attach
ui_attach_safe m safe session args =
    let base : Ui = attached_ui session (last_pairs (pairs_at args 2)) in
    safe_barred m (map_fault ui_keys (last_pairs (pairs_at args 2))) (or_refused (sized_ui args base) out_of_bounds (attaching_answer m.stage))
    (safe_found m Ui (sized_ui args base) out_of_bounds (attaching_answer m.stage)
    (λ ui e. put_safe m safe ui ((uis_are_full ui.session m.stage, limit_reached) ∷ (has_ui ui.session m.stage.uis, already_attached) ∷ []) (sized_narrow args base ui e)))

pub ui_try_resize_safe : SafeRow nvim_ui_try_resize
ui_try_resize_safe m safe session args =
    safe_found m Ui (sized_ui args (ui_or_new session m.stage.uis)) out_of_bounds (resizing_answer m.stage)
    (λ ui e. put_safe m safe ui ((not (has_ui ui.session m.stage.uis), not_attached) ∷ []) (sized_narrow args (ui_or_new session m.stage.uis) ui e))

pub ui_detach_safe : SafeRow nvim_ui_detach
ui_detach_safe m safe session args =
    safe_unless m ((not (has_ui session m.stage.uis), not_attached) ∷ []) (replied nil (uis_dropped (session ∷ []) ∷ []) [])
    (λ fail. safe_done m nil (uis_dropped (session ∷ []) ∷ []) [] (uis_dropped_safe (session ∷ []) m safe))

least_parts : (us : List Ui) (width height : ℕ) → IsLeastSize us width height → IsLeastOf (map (λ (u : Ui). u.width) us) width × IsLeastOf (map (λ (u : Ui). u.height) us) height
least_parts [] width height h = (tt, tt)
least_parts (u ∷ us) width height h = h

pub standing_of : (stage : Stage) → AreSoundUis stage.uis stage.workspace.width stage.workspace.height → AreStanding stage
standing_of stage h = let parts = least_parts stage.uis stage.workspace.width stage.workspace.height h.least in (h.rising, parts.0, parts.1)

holds_step : (P : Ui → Type 0) (s : ℕ) (u old : Ui) (rest : Option Ui) (b : Bool) → cond b (Some u) rest ≡ Some old → P u → (rest ≡ Some old → P old) → P old
holds_step P s u old rest true e p more = subst P (same_Some u old e) p
holds_step P s u old rest false e p more = more e

found_narrow : (s : ℕ) (us : List Ui) (old : Ui) → All HasScreenSize us → ui_of s us ≡ Some old → HasScreenSize old
found_narrow s [] old all e = absurd (none-some old e)
found_narrow s (u ∷ us) old all e =
    holds_step HasScreenSize s u old (ui_of s us) (u.session == s) e (All-head HasScreenSize u us all) (λ f. found_narrow s us old (All-tail HasScreenSize u us all) f)

option_safe : (m : ModelEditor) → IsSafeStage m.stage → (session : ℕ) (name : List ℕ) (value : Tree) (old : Ui) → ui_of session m.stage.uis ≡ Some old
    → IsSafe m (replied nil (ui_put (with_ui_option name value old) ∷ []) [])
option_safe m safe session name value old is =
    let opt = option_of name value old in
    let own : (with_ui_option name value old).session ≡ session = opt.session ∙ found_session session m.stage.uis old is in
    let there : ui_of (with_ui_option name value old).session m.stage.uis ≡ Some old = ap (λ (s : ℕ). ui_of s m.stage.uis) own ∙ is in
    let narrow = found_narrow session m.stage.uis old safe.1.narrow is in
    let wide : (with_ui_option name value old).width < 2 ^ 16 = subst (λ (n : ℕ). n < 2 ^ 16) (sym opt.width) narrow.0 in
    let high : (with_ui_option name value old).height < 2 ^ 16 = subst (λ (n : ℕ). n < 2 ^ 16) (sym opt.height) narrow.1 in
    let size = put_keeps_size (with_ui_option name value old) old m.stage (standing_of m.stage safe.1) there opt.width opt.height in
    safe_done m nil (ui_put (with_ui_option name value old) ∷ []) []
    (subst (λ (ws : Workspace). IsSoundWorkspace ws) (sym size) safe.0, put_sound (with_ui_option name value old) m.stage (wide, high) safe.1)

pub ui_set_option_safe : SafeRow nvim_ui_set_option
ui_set_option_safe m safe session args =
    let name : List ℕ = string_at args 0 in
    let value : Tree = object_at args 1 in
    safe_barred m (ui_option_fault name value) (setting_answer m.stage session name value)
    (safe_found m Ui (ui_of session m.stage.uis) not_attached (λ ui. replied nil (ui_put (with_ui_option name value ui) ∷ []) [])
    (λ old is. option_safe m safe session name value old is))
