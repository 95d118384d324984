-- Each row tells of the splices that it makes.
use Rattle.std.proofs.Common.{◌≡◌, ◌∙◌, refl, sym, ap, ℕ, ℤ, ◌+◌, Bool, true, false, List, [], ◌∷◌, ◌++◌, map, append-nil, Option, Some}
use Rattle.std.specs.Prelude.{flat_map, IfSome}
use Rattle.std.proofs.lemmas.Bool.{false≢true}
use Rattle.std.proofs.lemmas.List.Concat.{flat_map-append}
use Rattle.nv_value.specs.Content.{Tree, nil}
use Rattle.nv_value.specs.declared.fault.ApiFault.{ApiFault}
use Rattle.nv_args.specs.Reading.{Arg}
use Rattle.nv_args.specs.declared.methods.Method.{Method}
use Rattle.nv_args.specs.declared.methods.Method.TheVariants.{Atomic, PassedOver, Buffer, Mark, Window, Ui}
use Rattle.nv_args.specs.declared.methods.BufferMethod.{BufferMethod}
use Rattle.nv_args.specs.declared.methods.BufferMethod.TheVariants.{Command, BufSetLines, BufSetText}
use Rattle.nv_args.specs.declared.methods.MarkMethod.{MarkMethod}
use Rattle.nv_args.specs.declared.methods.MarkMethod.TheVariants.{SetHl}
use Rattle.nv_args.specs.declared.methods.WindowMethod.{WindowMethod}
use Rattle.nv_args.specs.declared.methods.WindowMethod.TheVariants.{OpenWin}
use Rattle.nv_args.specs.declared.methods.UiMethod.{UiMethod}
use Rattle.nv_args.specs.declared.methods.UiMethod.TheVariants.{UiAttach}
use Rattle.nv_undo.specs.Tree.{Undo}
use Rattle.nv_undo.specs.declared.legs.Leg.{Leg}
use Rattle.nv_model.specs.Buffers.{Splice, Kept, is_empty_splice, splice_events, text_after}
use Rattle.nv_model.specs.Undoing.{leg_splices, legs_splices}
use Rattle.nv_model.specs.Seen.{Seen, SeenBuffer, sealed_undo}
use Rattle.nv_model.specs.Operations.{Operation, spliced, spliced_back, stepped, buffer_made, tab_made, tab_closed}
use Rattle.nv_model.specs.Answers.{Answer, Fact, edited, quit, refused, replied, unless, or_refused, on_buffer, edits, leg_operations, undo_operations, undo_splices}
use Rattle.nv_model.specs.Answering.{fault_or, reply_of, event_of_splice, splice_answer}
use Rattle.nv_model.specs.Kinds.{Effects, no_effects, MakesOnly, HasEffects, kind_of_operation, kind_of_fact}
use Rattle.nv_model.specs.Rows.{Row}
use Rattle.nv_model.proofs.Making.{by_kinds, none_among, makes_no_splice, silent_parts, splices_nothing, tells_no_splice}
use Rattle.nv_model.proofs.AnswersTell.{chosen, keeps_unless, keeps_or_refused, keeps_barred}
use Rattle.nv_api_buf.specs.Rows.{buffer_row, buffer_effects}
use Rattle.nv_api_buf.proofs.RowsMake.{buffer_makes}
use Rattle.nv_api_buf.specs.TextRows.{nvim_buf_set_lines, nvim_buf_set_text}
use Rattle.nv_api_buf.specs.Commands.{Command as Order, undo, redo, undo_to, tabnew, tabclose, quit_all}
use Rattle.nv_api_buf.specs.CommandRows.{legs_answer, command_answer, nvim_command}
use Rattle.nv_api_mark.specs.Rows.{mark_row, mark_effects}
use Rattle.nv_api_mark.proofs.RowsMake.{mark_makes}
use Rattle.nv_api_win.specs.WindowRows.{window_row, window_effects}
use Rattle.nv_api_win.proofs.RowsMake.{window_makes}
use Rattle.nv_api_ui.specs.UiRows.{ui_row, ui_effects}
use Rattle.nv_api_ui.proofs.RowsMake.{ui_makes}
use Rattle.nv_dispatch.specs.Calls.{passed_over, row_of}
use Rattle.nv_dispatch.proofs.RowsMake.{passed_over_makes}
use Rattle.nv_world.specs.Steps.{splice_in, splice_by, splices_by}
use Rattle.nv_world.specs.declared.step.Moved.{Moved}
use Rattle.nv_world.specs.inside.Splicing.{splice_told, splices_told}

-- an answer that tells of the splices that it makes
unfoldable pub IsSpliceTold : Answer → Type 0
IsSpliceTold (refused fault) = Unit {0}
IsSpliceTold (replied t operations facts) = splices_told facts ≡ splices_by operations

abbrev pub SplicingRow : Row → Type 0
SplicingRow row = (s : Seen) (session : ℕ) (args : List Arg) → IsSpliceTold (row s session args)

-- ---- the words that rows are made of
told_fault : (f : ApiFault) → IsSpliceTold (refused f)
unfolding IsSpliceTold
told_fault f = tt

told_done : (t : Tree) (operations : List Operation) (facts : List Fact) → splices_told facts ≡ splices_by operations → IsSpliceTold (replied t operations facts)
unfolding IsSpliceTold
told_done t operations facts same = same

told_answers : (t : Tree) → IsSpliceTold (reply_of t)
told_answers t = told_done t [] [] refl

told_unless : (fs : List (Bool × ApiFault)) (a : Answer) → IsSpliceTold a → IsSpliceTold (unless fs a)
told_unless fs a = keeps_unless IsSpliceTold told_fault fs a

told_barred : (o : Option ApiFault) (a : Answer) → IsSpliceTold a → IsSpliceTold (fault_or o a)
told_barred o a = keeps_barred IsSpliceTold told_fault o a

told_found : (A : Type 0) (o : Option A) (f : ApiFault) (next : A → Answer) → ((a : A) → o ≡ Some a → IsSpliceTold (next a)) → IsSpliceTold (or_refused o f next)
told_found A o f next h = keeps_or_refused IsSpliceTold told_fault o f next h

told_on_buffer : (s : Seen) (n : ℤ) (next : ℤ → SeenBuffer → Answer) → ((k : ℤ) (b : SeenBuffer) → IsSpliceTold (next k b)) → IsSpliceTold (on_buffer s n next)
told_on_buffer s n next h = keeps_or_refused IsSpliceTold told_fault _ _ _ (λ b is. h _ b)

-- ---- rows that splice nothing
none_by : (c : Operation) → splices_nothing (kind_of_operation c) ≡ true → splice_by c ≡ []
none_by (spliced n s) e = absurd (false≢true e)
none_by (spliced_back n s) e = absurd (false≢true e)
none_by c e = refl

none_told : (f : Fact) → tells_no_splice (kind_of_fact f) ≡ true → splice_told f ≡ []
none_told (edited n event) e = absurd (false≢true e)
none_told f e = refl

silent_told : (e : Effects) (a : Answer) → makes_no_splice e ≡ true → MakesOnly e a → IsSpliceTold a
unfolding MakesOnly IsSpliceTold
silent_told e (refused f) silent h = tt
silent_told e (replied t operations facts) silent h =
    none_among splice_told facts
    (by_kinds kind_of_fact tells_no_splice (λ f. splice_told f ≡ []) none_told e.tells (silent_parts e silent).1 facts h.1)
    ∙ sym (none_among splice_by operations
    (by_kinds kind_of_operation splices_nothing (λ c. splice_by c ≡ []) none_by e.makes (silent_parts e silent).0 operations h.0))

by_silence : (e : Effects) (row : Row) → makes_no_splice e ≡ true → HasEffects e row → SplicingRow row
by_silence e row silent h s session args = silent_told e (row s session args) silent (h s session args)

-- ---- splices of one buffer
told_edits : (n : ℤ) (text : List ℕ) (tick : ℕ) (ss : List Splice) → splices_told (map (edited n) (splice_events text tick ss)) ≡ map (splice_in n) ss
told_edits n text tick [] = refl
told_edits n text tick (s ∷ ss) = ap (λ (l : List Moved). splice_in n s ∷ l) (told_edits n (text_after text s) (tick + 1) ss)

by_backs : (n : ℤ) (ss : List Splice) → splices_by (map (spliced_back n) ss) ≡ map (splice_in n) ss
by_backs n [] = refl
by_backs n (s ∷ ss) = ap (λ (l : List Moved). splice_in n s ∷ l) (by_backs n ss)

by_leg : (n : ℤ) (first : List ℕ) (tree : Undo Kept) (leg : Leg) → splices_by (leg_operations n first tree leg) ≡ map (splice_in n) (leg_splices first tree leg)
by_leg n first tree leg =
    flat_map-append splice_by (map (spliced_back n) (leg_splices first tree leg)) (stepped n leg ∷ [])
    ∙ append-nil (splices_by (map (spliced_back n) (leg_splices first tree leg)))
    ∙ by_backs n (leg_splices first tree leg)

map_both : (n : ℤ) (ss ts : List Splice) → map (splice_in n) ss ++ map (splice_in n) ts ≡ map (splice_in n) (ss ++ ts)
map_both n [] ts = refl
map_both n (s ∷ ss) ts = ap (λ (l : List Moved). splice_in n s ∷ l) (map_both n ss ts)

by_legs : (n : ℤ) (first : List ℕ) (tree : Undo Kept) (legs : List Leg)
    → splices_by (flat_map (leg_operations n first tree) legs) ≡ map (splice_in n) (legs_splices first tree legs)
by_legs n first tree [] = refl
by_legs n first tree (leg ∷ legs) =
    flat_map-append splice_by (leg_operations n first tree leg) (flat_map (leg_operations n first tree) legs)
    ∙ ap (λ (l : List Moved). l ++ splices_by (flat_map (leg_operations n first tree) legs)) (by_leg n first tree leg)
    ∙ ap (λ (l : List Moved). map (splice_in n) (leg_splices first tree leg) ++ l) (by_legs n first tree legs)
    ∙ map_both n (leg_splices first tree leg) (legs_splices first tree legs)

goes_legs : (n : ℤ) (b : SeenBuffer) (legs : List Leg) → IsSpliceTold (replied nil (undo_operations n b legs) (edits n b (undo_splices b legs)))
goes_legs n b legs =
    told_done nil (undo_operations n b legs) (edits n b (undo_splices b legs))
    (told_edits n _ _ (undo_splices b legs) ∙ sym (by_legs n b.first (sealed_undo b) legs))

told_legs : (s : Seen) (n : ℤ) (b : SeenBuffer) (legs : List Leg) → IsSpliceTold (legs_answer s n b legs)
told_legs s n b legs = search (told_unless, goes_legs)

told_splice : (n : ℤ) (b : SeenBuffer) (p : Splice) → IsSpliceTold (splice_answer n b p)
told_splice n b p =
    chosen IsSpliceTold (is_empty_splice p) (reply_of nil) (replied nil (spliced n p ∷ []) (edited n (event_of_splice b p) ∷ []))
    (told_answers nil)
    (told_done nil (spliced n p ∷ []) (edited n (event_of_splice b p) ∷ []) refl)

ruleset words = (told_on_buffer, told_found, told_unless, told_barred, told_answers, told_splice, told_legs)

-- ---- the rows that splice
set_lines : SplicingRow nvim_buf_set_lines
set_lines s session args = search words

set_text : SplicingRow nvim_buf_set_text
set_text s session args = search words depth 9

makes_tab : (n : ℤ) → IsSpliceTold (replied nil (buffer_made true ∷ tab_made n ∷ []) [])
makes_tab n = told_done nil (buffer_made true ∷ tab_made n ∷ []) [] refl

closes_tab : (t : ℤ) → IsSpliceTold (replied nil (tab_closed t ∷ []) [])
closes_tab t = told_done nil (tab_closed t ∷ []) [] refl

told_commands : (s : Seen) (c : Order) → IsSpliceTold (command_answer s c)
told_commands s undo = search words
told_commands s redo = search words
told_commands s (undo_to k) = search words
told_commands s tabnew = search (words, makes_tab)
told_commands s tabclose = search (words, closes_tab)
told_commands s quit_all = told_done nil [] (quit ∷ []) refl

command : SplicingRow nvim_command
command s session args = search (words, told_commands)

-- ---- all rows; those that aren't named splice nothing
buffers_splice : (method : BufferMethod) → SplicingRow (buffer_row method)
buffers_splice Command = command
buffers_splice BufSetLines = set_lines
buffers_splice BufSetText = set_text
buffers_splice method = by_silence (buffer_effects method) (buffer_row method) refl (buffer_makes method)

marks_silent : (method : MarkMethod) → makes_no_splice (mark_effects method) ≡ true
marks_silent SetHl = refl
marks_silent method = refl

windows_silent : (method : WindowMethod) → makes_no_splice (window_effects method) ≡ true
windows_silent OpenWin = refl
windows_silent method = refl

uis_silent : (method : UiMethod) → makes_no_splice (ui_effects method) ≡ true
uis_silent UiAttach = refl
uis_silent method = refl

pub rows_splice : (method : Method) → IfSome (row_of method) SplicingRow
unfolding row_of
rows_splice Atomic = tt
rows_splice PassedOver = by_silence no_effects passed_over refl passed_over_makes
rows_splice (Buffer method) = buffers_splice method
rows_splice (Mark method) = by_silence (mark_effects method) (mark_row method) (marks_silent method) (mark_makes method)
rows_splice (Window method) = by_silence (window_effects method) (window_row method) (windows_silent method) (window_makes method)
rows_splice (Ui method) = by_silence (ui_effects method) (ui_row method) (uis_silent method) (ui_makes method)
