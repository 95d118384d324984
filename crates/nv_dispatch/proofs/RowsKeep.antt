-- Each row keeps a sound model editor, and its facts tell what becomes of the buffers.
use Rattle.std.proofs.Common.{◌≡◌, ◌≢◌, ◌∙◌, refl, sym, ap, subst, ℕ, ℤ, pos, negsuc, ◌<◌, ◌≤◌, Bool, true, false, ◌||◌, ◌+◌, List, [], ◌∷◌, ◌++◌, length, arith, All, Option, Some, None}
use Rattle.std.specs.Prelude.{◌==◌, ◌&&◌, not, codes, nat_lt, int_lt, if◌then◌else◌, option_map, option_and_then, IfSome}
use Rattle.std.specs.List.{list_any}
use Rattle.std.specs.Ordering.{int_eq}
use Rattle.std.proofs.Math.Nat.{min-le_right}
use Rattle.std.proofs.lemmas.Bool.{false≢true}
use Rattle.std.proofs.lemmas.Bool.Decides.{nat_tests}
use Rattle.std.proofs.lemmas.List.Elements.{All-cons, All-nil}
use Rattle.std.proofs.lemmas.Option.{none-some, same_Some}
use Rattle.nv_value.specs.Content.{Tree, nil, truth}
use Rattle.nv_value.specs.declared.fault.ApiFault.{ApiFault}
use Rattle.nv_args.specs.Faults.{out_of_bounds, start_after_end, newline_inside, not_modifiable, limit_reached, no_id_left, unsaved_changes, last_one, unknown_name}
use Rattle.nv_args.specs.Arguments.{row_of_index, text_row, text_col, last_pairs}
use Rattle.nv_args.specs.Maps.{map_fault}
use Rattle.nv_args.specs.Dicts.{flag_key, flag_or}
use Rattle.nv_rpc.specs.Messages.{buffer_handle}
use Rattle.nv_args.specs.Reading.{Arg, number_at, flag_at, lines_at, string_at, pairs_at}
use Rattle.nv_args.specs.Texts.{has_newline, left_with, lines_put, or_empty}
use Rattle.nv_places.specs.Flat.{flat, IsLine, line_at, lines_of}
use Rattle.nv_places.specs.Places.{is_before}
use Rattle.nv_places.specs.declared.place.Pos.{Pos}
use Rattle.nv_undo.specs.Tree.{last}
use Rattle.nv_undo.specs.Ways.{Leads, undo_legs, redo_legs, legs_to}
use Rattle.nv_undo.specs.declared.legs.Leg.{Leg}
use Rattle.nv_buffer.specs.Splices.{IsInLine}
use Rattle.nv_buffer.proofs.Edits.{MayPutText}
use Rattle.nv_buffer.specs.Content.{next_part}
use Rattle.nv_buffer.specs.declared.edit.ChangePart.{ChangePart}
use Rattle.nv_model.proofs.Seeing.{next_same}
use Rattle.nv_model.specs.Buffers.{Splice, ModelBuffer, rows_splice, text_splice, is_empty_splice, text_of, tick_of, with_splice, part_next}
use Rattle.nv_model.specs.Stage.{or_current}
use Rattle.nv_windows.specs.Operations.{has_one_tabpage}
use Rattle.nv_windows.specs.Workspace.{current_buffer, showing}
use Rattle.nv_windows.specs.declared.window.Window.{Window as ShownWindow}
use Rattle.nv_model.specs.Editors.{ModelEditor, at_handle}
use Rattle.nv_model.specs.Seen.{SeenBuffer, seen_buffer, seen_of, sealed_undo}
use Rattle.nv_model.specs.Operations.{Operation, spliced, shown, buffer_made, buffer_dropped, tab_made, tab_closed, with_new_buffer, without_buffer, after_operation, after_operations}
use Rattle.nv_model.specs.Deleting.{no_buffer_left, showing_operations, dropping_operations, least_other}
use Rattle.nv_model.specs.Answers.{Answer, Fact, attached, detached, edited, deleted, quit, refused, replied, unless, or_refused, on_buffer, undo_operations, undo_splices, edits}
use Rattle.nv_model.specs.Answering.{fault_or, reply_of, splice_answer, event_of_splice}
use Rattle.nv_model.specs.Rows.{Row}
use Rattle.nv_model.proofs.AnswersTell.{chosen, keeps_unless, keeps_or_refused, keeps_barred}
use Rattle.nv_model.proofs.Lookups.{same_int}
use Rattle.nv_model.proofs.Numbering.{stays_below}
use Rattle.nv_model.proofs.Gone.{all-append}
use Rattle.nv_api_buf.specs.Texts.{place_in_row, place_named, splice_passes_limit}
use Rattle.nv_api_buf.specs.TextRows.{range_leaves, put_answer, rows_answer, nvim_buf_set_lines, nvim_buf_set_text}
use Rattle.nv_api_buf.specs.BufferRows.{buffers_are_full, nvim_create_buf, nvim_buf_delete, nvim_buf_attach, nvim_buf_detach}
use Rattle.nv_api_buf.specs.Commands.{Command as Order, undo, redo, undo_to, tabnew, tabclose, quit_all, command_of}
use Rattle.nv_api_buf.specs.CommandRows.{no_tab_left, tabs_are_full, legs_answer, command_answer, nvim_command}
use Rattle.nv_api_buf.specs.Rows.{buffer_row, buffer_effects}
use Rattle.nv_api_buf.proofs.RowsMake.{buffer_makes}
use Rattle.nv_api_buf.proofs.Newlines.{line-from_search}
use Rattle.nv_api_buf.proofs.Placing.{row-within, col-within}
use Rattle.nv_api_mark.specs.Rows.{mark_row, mark_effects}
use Rattle.nv_api_mark.proofs.RowsMake.{mark_makes}
use Rattle.nv_api_win.specs.WindowRows.{window_row, window_effects}
use Rattle.nv_api_win.proofs.RowsMake.{window_makes}
use Rattle.nv_api_ui.specs.UiRows.{ui_row, ui_effects}
use Rattle.nv_api_ui.proofs.RowsMake.{ui_makes}
use Rattle.nv_args.specs.declared.methods.Method.{Method}
use Rattle.nv_args.specs.declared.methods.Method.TheVariants.{Atomic, PassedOver, Buffer, Mark, Window, Ui}
use Rattle.nv_args.specs.declared.methods.BufferMethod.{BufferMethod}
use Rattle.nv_args.specs.declared.methods.BufferMethod.TheVariants.{Command, CreateBuf, BufDelete, BufSetLines, BufSetText, BufAttach, BufDetach}
use Rattle.nv_args.specs.declared.methods.MarkMethod.{MarkMethod}
use Rattle.nv_args.specs.declared.methods.MarkMethod.TheVariants.{SetHl}
use Rattle.nv_args.specs.declared.methods.WindowMethod.{WindowMethod}
use Rattle.nv_args.specs.declared.methods.WindowMethod.TheVariants.{OpenWin}
use Rattle.nv_args.specs.declared.methods.UiMethod.{UiMethod}
use Rattle.nv_args.specs.declared.methods.UiMethod.TheVariants.{UiAttach}
use Rattle.nv_model.specs.Kinds.{no_effects}
use Rattle.nv_dispatch.specs.Telling.{Past, past_at, text_then, FitsLines, FactsTell, IsAttachTold, IsSoundBuffer, IsSoundModel}
use Rattle.nv_dispatch.proofs.Pasts.{told_own, told_other}
use Rattle.nv_dispatch.proofs.Kept.{past_live, KeepsPasts, keeps_same, keeps_then, AllLeaveTexts, all_leave_keeps, leaves_keeps, keeps_made, made_stays, sound_dropped, past_dropped, past_stays}
use Rattle.nv_dispatch.proofs.Fitting.{IsPut, rows_are_put, text_is_put, put_sound, text_is, lines_kept, flat_lines, changed_by, TellsAll, tells_changed}
use Rattle.nv_dispatch.proofs.Undone.{undo_leads, redo_leads, to_leads, tree_sound, tells_legs}
use Rattle.nv_dispatch.specs.Calls.{passed_over, row_of}
use Rattle.nv_dispatch.proofs.QuietRows.{IsQuiet, QuietRow, is_quiet, quiet_done, quiet_row as quiet}
use Rattle.nv_dispatch.proofs.RowsMake.{passed_over_makes}

-- an answer after which the editor is sound, and whose facts tell
unfoldable pub AnswerTells : ModelEditor → Answer → Type 0
AnswerTells m (refused fault) = Unit {0}
AnswerTells m (replied t operations facts) = TellsAll m (after_operations operations m) facts

abbrev pub RowKeeps : Row → Type 0
RowKeeps row = (m : ModelEditor) → IsSoundModel m → (session : ℕ) (args : List Arg) → AnswerTells m (row (seen_of m) session args)

-- ---- the words that rows are made of
tells_fault : (m : ModelEditor) (f : ApiFault) → AnswerTells m (refused f)
unfolding AnswerTells
tells_fault m f = tt

tells_done : (m : ModelEditor) (t : Tree) (operations : List Operation) (facts : List Fact) → TellsAll m (after_operations operations m) facts
    → AnswerTells m (replied t operations facts)
unfolding AnswerTells
tells_done m t operations facts tells = tells

-- the editor keeps the past of each buffer, and nothing is told
tells_kept : (m later : ModelEditor) → KeepsPasts m later → TellsAll m later []
tells_kept m later keeps = record { sound = keeps.sound; tell = keeps.past }

quiet_keeps : (m : ModelEditor) → IsSoundModel m → (a : Answer) → IsQuiet a → AnswerTells m a
unfolding IsQuiet AnswerTells
quiet_keeps m sound (refused f) quiet = tt
quiet_keeps m sound (replied t operations facts) quiet =
    subst (λ (fs : List Fact). TellsAll m (after_operations operations m) fs) (sym quiet.1)
    (tells_kept m (after_operations operations m) (all_leave_keeps operations quiet.0 m sound))

row_keeps : (row : Row) → QuietRow row → RowKeeps row
row_keeps row quiet m sound session args = quiet_keeps m sound (row (seen_of m) session args) (quiet (seen_of m) session args)

tells_reply : (m : ModelEditor) → IsSoundModel m → (t : Tree) → AnswerTells m (reply_of t)
tells_reply m sound t = tells_done m t [] [] (tells_kept m m (record { sound = sound; past = λ n. refl }))

tells_unless : (m : ModelEditor) (fs : List (Bool × ApiFault)) (a : Answer) → AnswerTells m a → AnswerTells m (unless fs a)
tells_unless m fs a = keeps_unless (AnswerTells m) (tells_fault m) fs a

tells_barred : (m : ModelEditor) (o : Option ApiFault) (a : Answer) → AnswerTells m a → AnswerTells m (fault_or o a)
tells_barred m o a = keeps_barred (AnswerTells m) (tells_fault m) o a

-- what is answered where a condition doesn't hold
tells_test : (m : ModelEditor) (test : Bool) (f : ApiFault) (a : Answer) → (test ≡ false → AnswerTells m a) → AnswerTells m (if test then refused f else a)
tells_test m true f a h = tells_fault m f
tells_test m false f a h = h refl

-- a number that isn't below another one
not_above : (last k : ℕ) → nat_lt last k ≡ false → k ≤ last
not_above last k low = grind (arith, nat_tests)

tells_found : (m : ModelEditor) (A : Type 0) (o : Option A) (f : ApiFault) (next : A → Answer) → ((a : A) → o ≡ Some a → AnswerTells m (next a))
    → AnswerTells m (or_refused o f next)
tells_found m A o f next h = keeps_or_refused (AnswerTells m) (tells_fault m) o f next h

-- a buffer that is there
tells_live : (m : ModelEditor) (o : Option ModelBuffer) (f : ApiFault) (next : SeenBuffer → Answer) → ((b : ModelBuffer) → o ≡ Some b → AnswerTells m (next (seen_buffer b)))
    → AnswerTells m (or_refused (option_map seen_buffer o) f next)
tells_live m None f next h = tells_fault m f
tells_live m (Some b) f next h = h b refl

tells_on_buffer : (m : ModelEditor) (n : ℤ) (next : ℤ → SeenBuffer → Answer)
    → ((k : ℤ) (b : ModelBuffer) → at_handle m.buffers k ≡ Some b → AnswerTells m (next k (seen_buffer b))) → AnswerTells m (on_buffer (seen_of m) n next)
tells_on_buffer m n next h =
    tells_live m (at_handle m.buffers (or_current (current_buffer m.stage.workspace) n)) _ (next (or_current (current_buffer m.stage.workspace) n))
    (h (or_current (current_buffer m.stage.workspace) n))

-- ---- splices
tells_splice : (m : ModelEditor) (n : ℤ) (b : ModelBuffer) (p : Splice) (sound : IsSoundModel m) (there : at_handle m.buffers n ≡ Some b)
    → IsPut (sound.buffers n b there).0 p → AnswerTells m (splice_answer n (seen_buffer b) p)
tells_splice m n b p sound there put =
    let is : IsSoundBuffer b = sound.buffers n b there in
    let later : ModelEditor = after_operation (spliced n p) m in
    let fits : FitsLines (flat (lines_of (text_of b))) p = subst (λ (ls : List (List ℕ)). FitsLines (flat ls) p) (sym (lines_kept b is)) put.fits in
    let told : TellsAll m later (edited n (event_of_splice (seen_buffer b) p) ∷ []) =
    tells_changed n m later b (with_splice p b) (p ∷ []) (flat (lines_of (text_of b))) (tick_of b) sound there
    (changed_by n (with_splice p) m later b there refl refl (stays_below (spliced n p) m))
    (put_sound b p is put) refl (flat_lines b is) refl (fits, tt) in
    chosen (AnswerTells m) (is_empty_splice p) (reply_of nil) (replied nil (spliced n p ∷ []) (edited n (event_of_splice (seen_buffer b) p) ∷ []))
    (tells_reply m sound nil)
    (tells_done m nil (spliced n p ∷ []) (edited n (event_of_splice (seen_buffer b) p) ∷ []) told)

tells_put : (m : ModelEditor) (n : ℤ) (b : ModelBuffer) (new : List (List ℕ)) (p : Splice) (sound : IsSoundModel m) (there : at_handle m.buffers n ≡ Some b)
    → (list_any has_newline new ≡ false → IsPut (sound.buffers n b there).0 p) → AnswerTells m (put_answer (seen_of m) n (seen_buffer b) new p)
tells_put m n b new p sound there put =
    let bars : List (Bool × ApiFault) =
    (not (is_empty_splice p) && not b.modifiable, not_modifiable)
    ∷ (splice_passes_limit m.stage.limits (seen_buffer b) p, limit_reached)
    ∷ [] in
    let answer : Answer = splice_answer n (seen_buffer b) p in
    tells_test m (list_any has_newline new) newline_inside (unless bars answer) (λ clean.
    tells_unless m bars answer (tells_splice m n b p sound there (put clean)))

-- strings without a line feed are lines
or_parts : (a b : Bool) → a || b ≡ false → (a ≡ false) × (b ≡ false)
or_parts true b e = absurd (false≢true (sym e))
or_parts false b e = (refl, e)

lines_clean : (lines : List (List ℕ)) → list_any has_newline lines ≡ false → All IsLine lines
lines_clean [] e = All-nil IsLine
lines_clean (line ∷ lines) e =
    let parts = or_parts (has_newline line) (list_any has_newline lines) e in
    All-cons IsLine line lines (line-from_search line parts.0) (lines_clean lines parts.1)

one_line : All IsLine ([] ∷ [])
one_line = All-cons IsLine [] [] (All-nil (λ (b : ℕ). b ≢ 10)) (All-nil IsLine)

left_clean : (after new : List (List ℕ)) → All IsLine new → All IsLine (left_with after new)
left_clean [] new are = one_line
left_clean (line ∷ after) new are = are

empty_clean : (new : List (List ℕ)) → All IsLine new → All IsLine (or_empty new)
empty_clean [] are = one_line
empty_clean (line ∷ lines) are = are

empty_some : (new : List (List ℕ)) → 0 < length (or_empty new)
empty_some [] = omega arith
empty_some (line ∷ lines) = omega arith

-- a row of an index stands in the text
index_within : (index : ℤ) (lines : ℕ) → row_of_index index lines ≤ lines
index_within (pos index) lines = min-le_right index lines
index_within (negsuc index) lines = omega arith

tells_rows : (m : ModelEditor) (args : List Arg) (n : ℤ) (b : ModelBuffer) (from to : ℕ) → IsSoundModel m → at_handle m.buffers n ≡ Some b
    → to ≤ length (lines_of (text_of b)) → AnswerTells m (rows_answer (seen_of m) args n (seen_buffer b) from to)
tells_rows m args n b from to sound there within =
    let is : IsSoundBuffer b = sound.buffers n b there in
    let new : List (List ℕ) = lines_at args 4 in
    let put : List (List ℕ) = lines_put from to new (lines_of (text_of b)) in
    let same : lines_of (text_of b) ≡ is.0.text = lines_kept b is in
    let splice : Splice = rows_splice (part_next b) (lines_of (text_of b)) from to put in
    let answer : Answer = put_answer (seen_of m) n (seen_buffer b) new splice in
    tells_test m (range_leaves args (length (lines_of (text_of b)))) out_of_bounds (if nat_lt to from then refused start_after_end else answer) (λ inside.
    tells_test m (nat_lt to from) start_after_end answer (λ order.
    tells_put m n b new splice sound there (λ clean.
    subst (λ (p : ChangePart). IsPut is.0 (rows_splice p (lines_of (text_of b)) from to put)) (next_same is.0 _ is.1)
    (subst (λ (ls : List (List ℕ)). IsPut is.0 (rows_splice (next_part is.0) ls from to put)) (sym same)
    (rows_are_put is.0 from to put (grind (arith, nat_tests)) (subst (λ (ls : List (List ℕ)). to ≤ length ls) same within) is.1.lines
    (left_clean _ new (lines_clean new clean)))))))

set_lines : RowKeeps nvim_buf_set_lines
set_lines m sound session args =
    let next : ℤ → SeenBuffer → Answer = λ n b.
    rows_answer (seen_of m) args n b (row_of_index (number_at args 1) (length b.lines)) (row_of_index (number_at args 2) (length b.lines)) in
    tells_on_buffer m (number_at args 0) next (λ n b there.
    tells_rows m args n b (row_of_index (number_at args 1) (length (lines_of (text_of b)))) (row_of_index (number_at args 2) (length (lines_of (text_of b)))) sound there
    (index_within (number_at args 2) (length (lines_of (text_of b)))))

-- a place that is named stands in a line
named_col : (lines : List (List ℕ)) (col : ℤ) (r : ℕ) (p : Pos) (o : Option ℕ) → r < length lines → text_col col (length (line_at lines r)) ≡ o
    → option_map (λ (c : ℕ). let q : Pos = record { row = r; col = c } in q) o ≡ Some p → IsInLine lines p
named_col lines col r p None low is e = absurd (none-some p e)
named_col lines col r p (Some c) low is e =
    subst (λ (q : Pos). IsInLine lines q) (same_Some (record { row = r; col = c }) p e)
    (record { row = low; col = col-within col (length (line_at lines r)) c (sym is) })

named_row : (lines : List (List ℕ)) (row col : ℤ) (p : Pos) (o : Option ℕ) → text_row row (length lines) ≡ o → option_and_then (place_in_row lines col) o ≡ Some p → IsInLine lines p
named_row lines row col p None is e = absurd (none-some p e)
named_row lines row col p (Some r) is e =
    named_col lines col r p (text_col col (length (line_at lines r))) (row-within row (length lines) r (sym is)) refl e

named_in : (lines : List (List ℕ)) (row col : ℤ) (p : Pos) → place_named lines row col ≡ Some p → IsInLine lines p
named_in lines row col p is = named_row lines row col p (text_row row (length lines)) refl is

tells_text : (m : ModelEditor) (args : List Arg) (n : ℤ) (b : ModelBuffer) (start stop : Pos) → IsSoundModel m → at_handle m.buffers n ≡ Some b
    → IsInLine (lines_of (text_of b)) start → IsInLine (lines_of (text_of b)) stop → is_before stop start ≡ false
    → AnswerTells m (put_answer (seen_of m) n (seen_buffer b) (lines_at args 5) (text_splice (part_next b) (lines_of (text_of b)) start stop (or_empty (lines_at args 5))))
tells_text m args n b start stop sound there start_in stop_in order =
    let is : IsSoundBuffer b = sound.buffers n b there in
    let new : List (List ℕ) = lines_at args 5 in
    let same : lines_of (text_of b) ≡ is.0.text = lines_kept b is in
    let may : MayPutText is.0.text start stop (or_empty new) = record {
      start_in = subst (λ (ls : List (List ℕ)). IsInLine ls start) same start_in;
      stop_in = subst (λ (ls : List (List ℕ)). IsInLine ls stop) same stop_in;
      order = order;
      some = empty_some new;
    } in
    tells_put m n b new (text_splice (part_next b) (lines_of (text_of b)) start stop (or_empty new)) sound there (λ clean.
    subst (λ (p : ChangePart). IsPut is.0 (text_splice p (lines_of (text_of b)) start stop (or_empty new))) (next_same is.0 _ is.1)
    (subst (λ (ls : List (List ℕ)). IsPut is.0 (text_splice (next_part is.0) ls start stop (or_empty new))) (sym same)
    (text_is_put is.0 start stop (or_empty new) may is.1.lines (empty_clean new (lines_clean new clean)))))

set_text : RowKeeps nvim_buf_set_text
set_text m sound session args =
    let done : ℤ → SeenBuffer → Pos → Pos → Answer = λ n b start stop.
    put_answer (seen_of m) n b (lines_at args 5) (text_splice b.next b.lines start stop (or_empty (lines_at args 5))) in
    let last : ℤ → SeenBuffer → Pos → Pos → Answer = λ n b start stop.
    if is_before stop start then refused start_after_end else done n b start stop in
    let second : ℤ → SeenBuffer → Pos → Answer = λ n b start.
    or_refused (place_named b.lines (number_at args 3) (number_at args 4)) out_of_bounds (last n b start) in
    let first : ℤ → SeenBuffer → Answer = λ n b.
    or_refused (place_named b.lines (number_at args 1) (number_at args 2)) out_of_bounds (second n b) in
    tells_on_buffer m (number_at args 0) first (λ n b there.
    tells_found m Pos (place_named (lines_of (text_of b)) (number_at args 1) (number_at args 2)) out_of_bounds (second n (seen_buffer b)) (λ start is_start.
    tells_found m Pos (place_named (lines_of (text_of b)) (number_at args 3) (number_at args 4)) out_of_bounds (last n (seen_buffer b) start) (λ stop is_stop.
    tells_test m (is_before stop start) start_after_end (done n (seen_buffer b) start stop) (λ order.
    tells_text m args n b start stop sound there
    (named_in (lines_of (text_of b)) (number_at args 1) (number_at args 2) start is_start)
    (named_in (lines_of (text_of b)) (number_at args 3) (number_at args 4) stop is_stop) order))))

-- ---- following
whole_is : (wanted : Bool) (lines now : List (List ℕ)) → lines ≡ now → IfSome (if wanted then Some lines else None) (λ (ls : List (List ℕ)). ls ≡ now)
whole_is true lines now is = is
whole_is false lines now is = tt

attach_tells : (m : ModelEditor) (n : ℤ) (b : ModelBuffer) (wanted : Bool) → IsSoundModel m → at_handle m.buffers n ≡ Some b → (k : ℤ) (t : Bool) → int_eq n k ≡ t
    → FactsTell k (attached n (tick_of b) (if wanted then Some (lines_of (text_of b)) else None) ∷ []) (past_at m k) (past_at m k)
attach_tells m n b wanted sound there k true same =
    let whole : Option (List (List ℕ)) = if wanted then Some (lines_of (text_of b)) else None in
    let p : Past = record { splices = b.splices; is_deleted = false } in
    let told : IsAttachTold p (tick_of b) whole p = record {
      tick_is = refl;
      lines_are = whole_is wanted (lines_of (text_of b)) (lines_of (text_then b.splices)) (ap lines_of (text_is b (sound.buffers n b there)));
      stays = refl;
    } in
    subst (λ (j : ℤ). FactsTell j (attached n (tick_of b) whole ∷ []) (past_at m j) (past_at m j)) (same_int n k same)
    (subst (λ (q : Past). FactsTell n (attached n (tick_of b) whole ∷ []) q q) (sym (past_live m n b sound there))
    (p, told_own n p p (IsAttachTold p (tick_of b) whole p) refl told, refl))
attach_tells m n b wanted sound there k false apart =
    let whole : Option (List (List ℕ)) = if wanted then Some (lines_of (text_of b)) else None in
    let p : Past = past_at m k in
    (p, told_other k n p p (IsAttachTold p (tick_of b) whole p) apart refl, refl)

attach : RowKeeps nvim_buf_attach
attach m sound session args =
    let barred : Option ApiFault = map_fault [] (last_pairs (pairs_at args 2)) in
    let facts : ℤ → SeenBuffer → List Fact = λ n b. attached n b.tick (if flag_at args 1 then Some b.lines else None) ∷ [] in
    tells_on_buffer m (number_at args 0) (λ n b. fault_or barred (replied (truth true) [] (facts n b))) (λ n b there.
    tells_barred m barred (replied (truth true) [] (facts n (seen_buffer b)))
    (tells_done m (truth true) [] (facts n (seen_buffer b)) (record { sound = sound; tell = λ k. attach_tells m n b (flag_at args 1) sound there k (int_eq n k) refl })))

detach_tells : (m : ModelEditor) (n : ℤ) (b : ModelBuffer) → IsSoundModel m → at_handle m.buffers n ≡ Some b → (k : ℤ) (t : Bool) → int_eq n k ≡ t
    → FactsTell k (detached n ∷ []) (past_at m k) (past_at m k)
detach_tells m n b sound there k true same =
    let p : Past = record { splices = b.splices; is_deleted = false } in
    subst (λ (j : ℤ). FactsTell j (detached n ∷ []) (past_at m j) (past_at m j)) (same_int n k same)
    (subst (λ (q : Past). FactsTell n (detached n ∷ []) q q) (sym (past_live m n b sound there))
    (p, told_own n p p (p ≡ p) refl refl, refl))
detach_tells m n b sound there k false apart = let p : Past = past_at m k in (p, told_other k n p p (p ≡ p) apart refl, refl)

detach : RowKeeps nvim_buf_detach
detach m sound session args =
    tells_on_buffer m (number_at args 0) (λ n b. replied (truth true) [] (detached n ∷ [])) (λ n b there.
    tells_done m (truth true) [] (detached n ∷ []) (record { sound = sound; tell = λ k. detach_tells m n b sound there k (int_eq n k) refl }))

-- ---- buffers made and deleted
create_buf : RowKeeps nvim_create_buf
create_buf m sound session args =
    let reply : Tree = buffer_handle m.stage.next_buffer in
    let made : List Operation = buffer_made (flag_at args 0) ∷ [] in
    tells_unless m ((no_buffer_left m.stage, no_id_left) ∷ (buffers_are_full (seen_of m), limit_reached) ∷ []) (replied reply made [])
    (tells_done m reply made [] (tells_kept m (with_new_buffer (flag_at args 0) m) (keeps_made (flag_at args 0) m sound)))

module _ (m between : ModelEditor) (n : ℤ) (b : ModelBuffer) (keeps : KeepsPasts m between) (there : at_handle between.buffers n ≡ Some b) where
  drop_tells : (k : ℤ) (t : Bool) → int_eq n k ≡ t → FactsTell k (deleted n ∷ []) (past_at m k) (past_at (without_buffer n between) k)
  drop_tells k true same =
      let p : Past = past_at m n in
      let q : Past = past_at (without_buffer n between) n in
      let live : p.is_deleted ≡ false = ap (λ (r : Past). r.is_deleted) (sym (keeps.past n) ∙ past_live between n b keeps.sound there) in
      let gone : q ≡ record p { is_deleted = true } =
      past_dropped n between keeps.sound b there ∙ ap (λ (r : Past). record r { is_deleted = true }) (keeps.past n) in
      subst (λ (j : ℤ). FactsTell j (deleted n ∷ []) (past_at m j) (past_at (without_buffer n between) j)) (same_int n k same)
      (q, told_own n p q (q ≡ record p { is_deleted = true }) live gone, refl)
  drop_tells k false apart =
      let p : Past = past_at m k in
      (p, told_other k n p p (p ≡ record p { is_deleted = true }) apart refl, past_stays n between keeps.sound b there k apart ∙ keeps.past k)

  tells_dropped : TellsAll m (without_buffer n between) (deleted n ∷ [])
  tells_dropped = record { sound = sound_dropped n between keeps.sound b there; tell = λ k. drop_tells k (int_eq n k) refl }

-- windows that show another buffer
leave_in_shown : (n : ℤ) (windows : List ShownWindow) → AllLeaveTexts (showing_operations n windows)
leave_in_shown n [] = tt
leave_in_shown n (w ∷ ws) = (tt, leave_in_shown n ws)

shown_buffers : (n : ℤ) (windows : List ShownWindow) (m : ModelEditor) → (after_operations (showing_operations n windows) m).buffers ≡ m.buffers
shown_buffers n [] m = refl
shown_buffers n (w ∷ ws) m = shown_buffers n ws (after_operation (shown w.handle n) m)

shown_dropped : (first m : ModelEditor) (n k : ℤ) (windows : List ShownWindow) (b : ModelBuffer) → KeepsPasts first m → at_handle m.buffers n ≡ Some b
    → TellsAll first (after_operations (showing_operations k windows ++ buffer_dropped n ∷ []) m) (deleted n ∷ [])
shown_dropped first m n k windows b keeps there =
    let between : ModelEditor = after_operations (showing_operations k windows) m in
    let later : KeepsPasts m between = all_leave_keeps (showing_operations k windows) (leave_in_shown k windows) m keeps.sound in
    subst (λ (x : ModelEditor). TellsAll first x (deleted n ∷ [])) (sym (all-append (showing_operations k windows) (buffer_dropped n ∷ []) m))
    (tells_dropped first between n b (keeps_then first m between keeps later) (ap (λ (es : List (ℤ × ModelBuffer)). at_handle es n) (shown_buffers k windows m) ∙ there))

drops : (m : ModelEditor) (n : ℤ) (b : ModelBuffer) (other : Option ℤ) → IsSoundModel m → at_handle m.buffers n ≡ Some b
    → TellsAll m (after_operations (dropping_operations m.stage n other) m) (deleted n ∷ [])
drops m n b None sound there =
    shown_dropped m (with_new_buffer true m) n m.stage.next_buffer (showing n m.stage.workspace.windows) b (keeps_made true m sound) (made_stays true m sound n b there)
drops m n b (Some other) sound there =
    shown_dropped m m n other (showing n m.stage.workspace.windows) b (keeps_same m sound) there

delete_buf : RowKeeps nvim_buf_delete
delete_buf m sound session args =
    let pairs : List (Tree × Tree) = last_pairs (pairs_at args 1) in
    let barred : Option ApiFault = map_fault (flag_key (codes "force") ∷ []) pairs in
    let bars : SeenBuffer → List (Bool × ApiFault) = λ b.
    (length (seen_of m).handles == 1 && no_buffer_left m.stage, no_id_left)
    ∷ (b.modified && not (flag_or false (codes "force") pairs), unsaved_changes)
    ∷ [] in
    let done : ℤ → Answer = λ n. replied nil (dropping_operations m.stage n (least_other (seen_of m) n)) (deleted n ∷ []) in
    tells_on_buffer m (number_at args 0) (λ n b. fault_or barred (unless (bars b) (done n))) (λ n b there.
    tells_barred m barred (unless (bars (seen_buffer b)) (done n))
    (tells_unless m (bars (seen_buffer b)) (done n)
    (tells_done m nil (dropping_operations m.stage n (least_other (seen_of m) n)) (deleted n ∷ []) (drops m n b (least_other (seen_of m) n) sound there))))

-- ---- commands
tells_legs_answer : (m : ModelEditor) (n : ℤ) (b : ModelBuffer) (legs : List Leg) → IsSoundModel m → at_handle m.buffers n ≡ Some b
    → (to : ℕ) × Leads (sealed_undo (seen_buffer b)) (sealed_undo (seen_buffer b)).current legs to
    → AnswerTells m (legs_answer (seen_of m) n (seen_buffer b) legs)
tells_legs_answer m n b legs sound there way =
    let splices : List Splice = undo_splices (seen_buffer b) legs in
    let operations : List Operation = undo_operations n (seen_buffer b) legs in
    let facts : List Fact = edits n (seen_buffer b) splices in
    tells_unless m
    (
    (not (length splices == 0) && not b.modifiable, not_modifiable)
    ∷ (not (length splices == 0) && int_lt m.stage.limits.ticks (pos (tick_of b + length splices)), limit_reached)
    ∷ [])
    (replied nil operations facts) (tells_done m nil operations facts (tells_legs m n b legs sound there way))

tells_command : (m : ModelEditor) → IsSoundModel m → (c : Order) → AnswerTells m (command_answer (seen_of m) c)
tells_command m sound undo =
    tells_on_buffer m (pos 0) (λ n b. legs_answer (seen_of m) n b (undo_legs (sealed_undo b))) (λ n b there.
    let tree = sealed_undo (seen_buffer b) in
    tells_legs_answer m n b (undo_legs tree) sound there (undo_leads tree (tree_sound b (sound.buffers n b there))))
tells_command m sound redo =
    tells_on_buffer m (pos 0) (λ n b. legs_answer (seen_of m) n b (redo_legs (sealed_undo b))) (λ n b there.
    let tree = sealed_undo (seen_buffer b) in
    tells_legs_answer m n b (redo_legs tree) sound there (redo_leads tree (tree_sound b (sound.buffers n b there))))
tells_command m sound (undo_to k) =
    let done : ℤ → SeenBuffer → Answer = λ n b. legs_answer (seen_of m) n b (legs_to k (sealed_undo b)) in
    tells_on_buffer m (pos 0) (λ n b. if nat_lt (last (sealed_undo b)) k then refused out_of_bounds else done n b) (λ n b there.
    let tree = sealed_undo (seen_buffer b) in
    tells_test m (nat_lt (last tree) k) out_of_bounds (done n (seen_buffer b)) (λ low.
    tells_legs_answer m n b (legs_to k tree) sound there (to_leads tree (tree_sound b (sound.buffers n b there)) k (not_above (last tree) k low))))
tells_command m sound tabnew =
    let made : KeepsPasts m (with_new_buffer true m) = keeps_made true m sound in
    let tab : Operation = tab_made m.stage.next_buffer in
    tells_unless m ((no_tab_left m.stage, no_id_left) ∷ (tabs_are_full (seen_of m), limit_reached) ∷ []) (replied nil (buffer_made true ∷ tab ∷ []) [])
    (tells_done m nil (buffer_made true ∷ tab ∷ []) []
    (tells_kept m (after_operation tab (with_new_buffer true m))
    (keeps_then m (with_new_buffer true m) (after_operation tab (with_new_buffer true m)) made (leaves_keeps tab tt (with_new_buffer true m) made.sound))))
tells_command m sound tabclose =
    let done : Answer = replied nil (tab_closed m.stage.workspace.tabpage ∷ []) [] in
    tells_unless m ((has_one_tabpage m.stage.workspace, last_one) ∷ []) done (quiet_keeps m sound done (quiet_done nil (tab_closed m.stage.workspace.tabpage ∷ []) (tt, tt)))
tells_command m sound quit_all = tells_done m nil [] (quit ∷ []) (record { sound = sound; tell = λ k. (past_at m k, refl, refl) })

command : RowKeeps nvim_command
command m sound session args =
    tells_found m Order (command_of (string_at args 0)) (unknown_name (string_at args 0)) (command_answer (seen_of m)) (λ c is. tells_command m sound c)

-- ---- all rows; those that aren't named leave texts, and tell nothing
buffer_keeps : (method : BufferMethod) → RowKeeps (buffer_row method)
buffer_keeps Command = command
buffer_keeps CreateBuf = create_buf
buffer_keeps BufDelete = delete_buf
buffer_keeps BufSetLines = set_lines
buffer_keeps BufSetText = set_text
buffer_keeps BufAttach = attach
buffer_keeps BufDetach = detach
buffer_keeps method = row_keeps (buffer_row method) (quiet (buffer_effects method) (buffer_row method) refl (buffer_makes method))

marks_quiet : (method : MarkMethod) → is_quiet (mark_effects method) ≡ true
marks_quiet SetHl = refl
marks_quiet method = refl

windows_quiet : (method : WindowMethod) → is_quiet (window_effects method) ≡ true
windows_quiet OpenWin = refl
windows_quiet method = refl

uis_quiet : (method : UiMethod) → is_quiet (ui_effects method) ≡ true
uis_quiet UiAttach = refl
uis_quiet method = refl

pub rows_keep : (method : Method) → IfSome (row_of method) RowKeeps
unfolding row_of
rows_keep Atomic = tt
rows_keep PassedOver = row_keeps passed_over (quiet no_effects passed_over refl passed_over_makes)
rows_keep (Buffer method) = buffer_keeps method
rows_keep (Mark method) = row_keeps (mark_row method) (quiet (mark_effects method) (mark_row method) (marks_quiet method) (mark_makes method))
rows_keep (Window method) = row_keeps (window_row method) (quiet (window_effects method) (window_row method) (windows_quiet method) (window_makes method))
rows_keep (Ui method) = row_keeps (ui_row method) (quiet (ui_effects method) (ui_row method) (uis_quiet method) (ui_makes method))
