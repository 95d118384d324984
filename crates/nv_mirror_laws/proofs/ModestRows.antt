-- Each row leaves an editor of which each text can be told in messages, within the limits of an editor.
use Rattle.std.proofs.Common.{◌≡◌, ℕ, zero, suc, ◌+◌, ◌<◌, ◌≤◌, ◌^◌, ℤ, pos, negsuc, List, [], ◌∷◌, ◌++◌, map, length, take, drop, append-nil, append_assoc, length-append, refl, sym, ap, subst, ◌∙◌, arith, cond, not, ◌||◌, Bool, true, false, Option, Some, None, FitsSigned, w64}
use Rattle.std.specs.Prelude.{option_map, flat_map, ◌==◌, ◌&&◌, nat_lt, int_lt, IfSome, if◌then◌else◌}
use Rattle.std.specs.List.{AllByRecursion, list_all, list_any, splice}
use Rattle.std.specs.Option.{option_or}
use Rattle.std.specs.Ordering.{int_eq}
use Rattle.std.proofs.lemmas.Bool.{false≢true}
use Rattle.std.proofs.lemmas.Bool.Decides.{nat_tests}
use Rattle.std.proofs.lemmas.Int.{ints}
use Rattle.std.proofs.lemmas.Option.{none-some, same_Some}
use Rattle.nv_value.specs.Content.{Tree, nil}
use Rattle.nv_value.specs.declared.fault.ApiFault.{ApiFault}
use Rattle.nv_places.specs.Flat.{flat, lines_of}
use Rattle.nv_places.specs.Places.{is_before}
use Rattle.nv_places.specs.declared.place.Pos.{Pos}
use Rattle.nv_undo.specs.Tree.{Undo, last, tree_after_leg}
use Rattle.nv_undo.specs.Ways.{Leads, undo_legs, redo_legs, legs_to}
use Rattle.nv_undo.specs.declared.legs.Leg.{Leg}
use Rattle.nv_buffer.specs.declared.buffer.Spliced.{Spliced}
use Rattle.nv_args.specs.Arguments.{row_of_index}
use Rattle.nv_args.specs.Faults.{out_of_bounds, start_after_end, newline_inside, not_modifiable, limit_reached, no_id_left, last_one, unknown_name}
use Rattle.nv_args.specs.Reading.{Arg, number_at, lines_at, string_at}
use Rattle.nv_args.specs.Texts.{has_newline, lines_put, or_empty}
use Rattle.nv_args.specs.declared.methods.Method.{Method}
use Rattle.nv_args.specs.declared.methods.Method.TheVariants.{Atomic, PassedOver, Buffer, Mark, Window, Ui}
use Rattle.nv_args.specs.declared.methods.BufferMethod.{BufferMethod}
use Rattle.nv_args.specs.declared.methods.BufferMethod.TheVariants.{Command, BufSetLines, BufSetText}
use Rattle.nv_args.specs.declared.methods.MarkMethod.{MarkMethod}
use Rattle.nv_args.specs.declared.methods.MarkMethod.TheVariants.{CreateNamespace}
use Rattle.nv_args.specs.declared.methods.WindowMethod.{WindowMethod}
use Rattle.nv_args.specs.declared.methods.WindowMethod.TheVariants.{ListWins}
use Rattle.nv_args.specs.declared.methods.UiMethod.{UiMethod}
use Rattle.nv_args.specs.declared.methods.UiMethod.TheVariants.{ListUis}
use Rattle.nv_windows.specs.Operations.{has_one_tabpage}
use Rattle.nv_windows.specs.Workspace.{current_buffer}
use Rattle.nv_model.specs.Answering.{reply_of, splice_answer, event_of_splice}
use Rattle.nv_model.specs.Answers.{Answer, Fact, attached, detached, edited, deleted, quit, refused, replied, unless, or_refused, on_buffer, leg_operations, undo_operations, undo_splices, edits}
use Rattle.nv_model.specs.Buffers.{Splice, Kept, ModelBuffer, rows_splice, text_splice, is_empty_splice, text_after, text_of, tick_of, lines_in_place, splice_event, splice_events, kept_text, closed_with, fresh_buffer, with_seal, with_splice, with_splice_back, with_mark, without_mark}
use Rattle.nv_model.specs.Editors.{ModelEditor, at_handle, updated_at}
use Rattle.nv_model.specs.Kinds.{OperationKind, splices, undoes_changes, FactKind, splicings, kind_of_operation, kind_of_fact, Effects, no_effects, MakesOnly, HasEffects}
use Rattle.nv_model.specs.Laws.{splices_in, splices_among}
use Rattle.nv_model.specs.Operations.{Operation, spliced, spliced_back, stepped, sealed_in, mark_set, mark_removed, name_put, modifiable_put, modified_put, listed_put, tabstop_put, buffer_made, buffer_dropped, tab_made, tab_closed, ui_put, uis_dropped, set_now, stage_spliced, after_operation, after_operations}
use Rattle.nv_model.specs.Rows.{Row}
use Rattle.nv_model.specs.Seen.{SeenBuffer, seen_buffer, seen_of, sealed_undo}
use Rattle.nv_model.specs.Stage.{Stage, with_uis, ui_among, other_uis, or_current}
use Rattle.nv_model.specs.Undoing.{leg_splices, legs_splices}
use Rattle.nv_model.specs.declared.parts.Limits.{Limits}
use Rattle.nv_model.specs.declared.parts.Ui.{Ui as SessionUi}
use Rattle.nv_model.proofs.AnswersTell.{keeps_unless, keeps_or_refused}
use Rattle.nv_model.proofs.Lookups.{same_int, int_eq-itself, at_updated, at_append, at_dropped}
use Rattle.nv_model.proofs.Making.{by_kinds}
use Rattle.nv_model.proofs.Texts.{operations_make_texts}
use Rattle.nv_api_buf.specs.CommandRows.{no_tab_left, tabs_are_full, legs_answer, command_answer, nvim_command}
use Rattle.nv_api_buf.specs.Commands.{Command as Order, undo, redo, undo_to, tabnew, tabclose, quit_all, command_of}
use Rattle.nv_api_buf.specs.Rows.{buffer_row, buffer_effects}
use Rattle.nv_api_buf.specs.TextRows.{range_leaves, put_answer, rows_answer, nvim_buf_set_lines, nvim_buf_set_text}
use Rattle.nv_api_buf.specs.Texts.{place_named, event_passes, splice_passes_limit}
use Rattle.nv_api_buf.proofs.RowsMake.{buffer_makes}
use Rattle.nv_api_mark.specs.Rows.{mark_row, mark_effects}
use Rattle.nv_api_mark.proofs.RowsMake.{mark_makes}
use Rattle.nv_api_win.specs.WindowRows.{window_row, window_effects}
use Rattle.nv_api_win.proofs.RowsMake.{window_makes}
use Rattle.nv_api_ui.specs.UiRows.{ui_row, ui_effects}
use Rattle.nv_api_ui.proofs.RowsMake.{ui_makes}
use Rattle.nv_dispatch.specs.Calls.{passed_over, row_of}
use Rattle.nv_dispatch.specs.Telling.{Past, splices_had, past_at, text_then, tick_then, FitsLines, IsSpliceTold, IsAttachTold, ToldOfLive, FactTells, FactsTell, IsSoundBuffer, IsSoundModel}
use Rattle.nv_dispatch.proofs.Fitting.{TellsAll, text_is, flat_lines}
use Rattle.nv_dispatch.proofs.Kept.{sealed_stands}
use Rattle.nv_dispatch.proofs.RowsKeep.{AnswerTells}
use Rattle.nv_dispatch.proofs.RowsMake.{passed_over_makes}
use Rattle.nv_dispatch.proofs.Undone.{undo_leads, redo_leads, to_leads, tree_sound}
use Rattle.nv_mirror_laws.specs.Laws.{AreTyped}
use Rattle.nv_mirror_laws.proofs.Tellable.{IsShort, IsTellable, Steps, first_tellable, steps_both, steps_end, IsModest, fresh_modest, sealed_modest, spliced_modest, stepped_modest, legs_step}
use Rattle.nv_mirror_laws.proofs.Unshown.{both_all, neither}

-- ---- an editor
abbrev pub IsModestPast : Past → Type 0
IsModestPast p = Steps (10 ∷ []) p.splices × (tick_then p.splices < 2 ^ 63)

abbrev pub AllModest : ModelEditor → Type 0
AllModest m = (n : ℤ) (b : ModelBuffer) → at_handle m.buffers n ≡ Some b → IsModest b

pub record IsModestModel (ls : Limits) (m : ModelEditor) : Type 0 where
  pub sound : IsSoundModel m
  pub pasts : (n : ℤ) → IsModestPast (past_at m n)
  pub live : AllModest m
  pub same : m.stage.limits ≡ ls

-- what was, of a live buffer
past_of : (m : ModelEditor) (n : ℤ) (b : ModelBuffer) → at_handle m.buffers n ≡ Some b → (past_at m n).splices ≡ b.splices
past_of m n b is = ap (λ (o : Option ModelBuffer). splices_had (option_or o (at_handle m.deleted n))) is

pub text_now : (ls : Limits) (m : ModelEditor) (n : ℤ) (b : ModelBuffer) → IsModestModel ls m → at_handle m.buffers n ≡ Some b → IsTellable (text_of b)
text_now ls m n b h is =
    subst (λ (t : List ℕ). IsTellable t) (sym (text_is b (h.sound.buffers n b is)))
    (steps_end (10 ∷ []) b.splices first_tellable (subst (λ (ss : List Splice). Steps (10 ∷ []) ss) (past_of m n b is) (h.pasts n).0))

pub tick_now : (ls : Limits) (m : ModelEditor) (n : ℤ) (b : ModelBuffer) → IsModestModel ls m → at_handle m.buffers n ≡ Some b → tick_of b < 2 ^ 63
tick_now ls m n b h is = subst (λ (ss : List Splice). tick_then ss < 2 ^ 63) (past_of m n b is) (h.pasts n).1

-- ---- operations that leave texts and changes
abbrev pub IsPlain : Operation → Type 0
IsPlain (spliced n s) = ⊥
IsPlain (spliced_back n s) = ⊥
IsPlain (stepped n leg) = ⊥
IsPlain (sealed_in n) = ⊥
IsPlain _ = Unit {0}

updated_step : (n : ℤ) (f : ModelBuffer → ModelBuffer) (m : ModelEditor) (d : ModelBuffer) (k : ℤ) (t : Bool) → int_eq n k ≡ t → (o : Option ModelBuffer) → at_handle m.buffers k ≡ o
    → cond t (option_map f o) o ≡ Some d → ((b : ModelBuffer) → at_handle m.buffers n ≡ Some b → IsModest b → IsModest (f b)) → AllModest m → IsModest d
updated_step n f m d k true same None was is keeps live = absurd (none-some d is)
updated_step n f m d k true same (Some b) was is keeps live =
    subst (λ (x : ModelBuffer). IsModest x) (same_Some (f b) d is)
    (keeps b (subst (λ (j : ℤ). at_handle m.buffers j ≡ Some b) (sym (same_int n k same)) was) (live k b was))
updated_step n f m d k false apart o was is keeps live = live k d (was ∙ is)

pub updated_live : (n : ℤ) (f : ModelBuffer → ModelBuffer) (m later : ModelEditor) → later.buffers ≡ updated_at n f m.buffers
    → ((b : ModelBuffer) → at_handle m.buffers n ≡ Some b → IsModest b → IsModest (f b)) → AllModest m → AllModest later
updated_live n f m later same keeps live k d is =
    let now : at_handle later.buffers k ≡ cond (int_eq n k) (option_map f (at_handle m.buffers k)) (at_handle m.buffers k) =
    ap (λ (es : List (ℤ × ModelBuffer)). at_handle es k) same ∙ at_updated n k f m.buffers in
    updated_step n f m d k (int_eq n k) refl (at_handle m.buffers k) refl (sym now ∙ is) keeps live

made_step : (listed : Bool) (d : ModelBuffer) (o : Option ModelBuffer) (t : Bool) → option_or o (cond t (Some (fresh_buffer listed)) None) ≡ Some d → (o ≡ Some d → IsModest d) → IsModest d
made_step listed d (Some b) t is was = was is
made_step listed d None true is was = subst (λ (x : ModelBuffer). IsModest x) (same_Some (fresh_buffer listed) d is) (fresh_modest listed)
made_step listed d None false is was = absurd (none-some d is)

dropped_step : (d : ModelBuffer) (o : Option ModelBuffer) (t : Bool) → cond t None o ≡ Some d → o ≡ Some d
dropped_step d o true is = absurd (none-some d is)
dropped_step d o false is = is

pub plain_live : (c : Operation) → IsPlain c → (m : ModelEditor) → AllModest m → AllModest (after_operation c m)
plain_live (spliced n s) is m live = absurd is
plain_live (spliced_back n s) is m live = absurd is
plain_live (stepped n leg) is m live = absurd is
plain_live (sealed_in n) is m live = absurd is
plain_live (mark_set n k) is m live =
    updated_live n (λ b. with_mark (set_now b k) b) m (after_operation (mark_set n k) m) refl (λ b there h. record { first = h.first; changes = h.changes; since = h.since }) live
plain_live (mark_removed n ns id) is m live =
    updated_live n (without_mark ns id) m (after_operation (mark_removed n ns id) m) refl (λ b there h. record { first = h.first; changes = h.changes; since = h.since }) live
plain_live (name_put n name) is m live =
    updated_live n (λ b. record b { name = name }) m (after_operation (name_put n name) m) refl (λ b there h. record { first = h.first; changes = h.changes; since = h.since }) live
plain_live (modifiable_put n on) is m live =
    updated_live n (λ b. record b { modifiable = on }) m (after_operation (modifiable_put n on) m) refl (λ b there h. record { first = h.first; changes = h.changes; since = h.since }) live
plain_live (modified_put n on) is m live =
    updated_live n (λ b. record b { modified = on }) m (after_operation (modified_put n on) m) refl (λ b there h. record { first = h.first; changes = h.changes; since = h.since }) live
plain_live (listed_put n on) is m live =
    updated_live n (λ b. record b { listed = on }) m (after_operation (listed_put n on) m) refl (λ b there h. record { first = h.first; changes = h.changes; since = h.since }) live
plain_live (tabstop_put n cells) is m live =
    updated_live n (λ b. record b { tabstop = cells }) m (after_operation (tabstop_put n cells) m) refl (λ b there h. record { first = h.first; changes = h.changes; since = h.since }) live
plain_live (buffer_made listed) is m live = λ k d e.
    made_step listed d (at_handle m.buffers k) (int_eq m.stage.next_buffer k) (sym (at_append k m.buffers ((m.stage.next_buffer, fresh_buffer listed) ∷ [])) ∙ e) (λ f. live k d f)
plain_live (buffer_dropped n) is m live = λ k d e. live k d (dropped_step d (at_handle m.buffers k) (int_eq n k) (sym (at_dropped n k m.buffers) ∙ e))
plain_live c is m live = live

pub all_plain_live : (cs : List Operation) → AllByRecursion IsPlain cs → (m : ModelEditor) → AllModest m → AllModest (after_operations cs m)
all_plain_live [] are m live = live
all_plain_live (c ∷ cs) are m live = all_plain_live cs are.1 (after_operation c m) (plain_live c are.0 m live)

-- ---- no operation changes the limits
limits_with : (us : List SessionUi) (stage : Stage) → (with_uis us stage).limits ≡ stage.limits
limits_with [] stage = refl
limits_with (u ∷ us) stage = refl

limits_spliced : (n : ℤ) (p : Splice) (o : Option ModelBuffer) (stage : Stage) → (stage_spliced n p o stage).limits ≡ stage.limits
limits_spliced n p None stage = refl
limits_spliced n p (Some b) stage = refl

same_limits : (c : Operation) (m : ModelEditor) → (after_operation c m).stage.limits ≡ m.stage.limits
same_limits (spliced n p) m = limits_spliced n p (at_handle m.buffers n) m.stage
same_limits (spliced_back n p) m = limits_spliced n p (at_handle m.buffers n) m.stage
same_limits (ui_put ui) m = limits_with (ui_among ui m.stage.uis) m.stage
same_limits (uis_dropped ss) m = limits_with (other_uis ss m.stage.uis) m.stage
same_limits c m = refl

pub limits_stay : (cs : List Operation) (m : ModelEditor) → (after_operations cs m).stage.limits ≡ m.stage.limits
limits_stay [] m = refl
limits_stay (c ∷ cs) m = limits_stay cs (after_operation c m) ∙ same_limits c m

-- ---- facts that tell of no splice
abbrev NoSplice : Fact → Type 0
NoSplice (edited n e) = ⊥
NoSplice _ = Unit {0}

live_splices : (b : Bool) (p q : Past) (R : Type 0) → ToldOfLive b p q R → (R → q.splices ≡ p.splices) → q.splices ≡ p.splices
live_splices true p q R h each = each h.1
live_splices false p q R h each = ap (λ (x : Past). x.splices) h

fact_splices : (n : ℤ) (fact : Fact) (p q : Past) → NoSplice fact → FactTells n fact p q → q.splices ≡ p.splices
fact_splices n (attached k tick whole) p q none h = live_splices (int_eq k n) p q (IsAttachTold p tick whole q) h (λ a. ap (λ (x : Past). x.splices) a.stays)
fact_splices n (detached k) p q none h = live_splices (int_eq k n) p q (q ≡ p) h (λ e. ap (λ (x : Past). x.splices) e)
fact_splices n (edited k e) p q none h = absurd none
fact_splices n (deleted k) p q none h = live_splices (int_eq k n) p q (q ≡ record p { is_deleted = true }) h (λ e. ap (λ (x : Past). x.splices) e)
fact_splices n quit p q none h = ap (λ (x : Past). x.splices) h

facts_splices : (n : ℤ) (fs : List Fact) (p q : Past) → AllByRecursion NoSplice fs → FactsTell n fs p q → q.splices ≡ p.splices
facts_splices n [] p q none h = ap (λ (x : Past). x.splices) h
facts_splices n (f ∷ fs) p q none h = facts_splices n fs h.0 q none.1 h.2 ∙ fact_splices n f p h.0 none.0 h.1

past_stays : (p q : Past) → q.splices ≡ p.splices → IsModestPast p → IsModestPast q
past_stays p q e h = (subst (λ (ss : List Splice). Steps (10 ∷ []) ss) (sym e) h.0, subst (λ (ss : List Splice). tick_then ss < 2 ^ 63) (sym e) h.1)

-- ---- answers
unfoldable pub AnswerModest : Limits → ModelEditor → Answer → Type 0
AnswerModest ls m (refused fault) = Unit {0}
AnswerModest ls m (replied t operations facts) = IsModestModel ls (after_operations operations m)

-- where their facts tell
abbrev pub Modestly : Limits → ModelEditor → Answer → Type 0
Modestly ls m a = AnswerTells m a → AnswerModest ls m a

fault_modestly : (ls : Limits) (m : ModelEditor) (f : ApiFault) → Modestly ls m (refused f)
unfolding AnswerModest
fault_modestly ls m f tells = tt

-- operations that are plain, and facts that tell of no splice
done_plain : (ls : Limits) (m : ModelEditor) (t : Tree) (operations : List Operation) (facts : List Fact) → IsModestModel ls m → AllByRecursion IsPlain operations → AllByRecursion NoSplice facts
    → Modestly ls m (replied t operations facts)
unfolding AnswerModest AnswerTells
done_plain ls m t operations facts h plain none tells = record {
  sound = tells.sound;
  pasts = λ n. past_stays (past_at m n) (past_at (after_operations operations m) n) (facts_splices n facts (past_at m n) (past_at (after_operations operations m) n) none (tells.tell n)) (h.pasts n);
  live = all_plain_live operations plain m h.live;
  same = limits_stay operations m ∙ h.same;
}

reply_modestly : (ls : Limits) (m : ModelEditor) (t : Tree) → IsModestModel ls m → Modestly ls m (reply_of t)
reply_modestly ls m t h = done_plain ls m t [] [] h tt tt

abbrev leaves_texts : OperationKind → Bool
leaves_texts splices = false
leaves_texts undoes_changes = false
leaves_texts _ = true

plain_kind : (c : Operation) → leaves_texts (kind_of_operation c) ≡ true → IsPlain c
plain_kind (spliced n s) e = absurd (false≢true e)
plain_kind (spliced_back n s) e = absurd (false≢true e)
plain_kind (stepped n leg) e = absurd (false≢true e)
plain_kind (sealed_in n) e = absurd (false≢true e)
plain_kind c e = tt

abbrev tells_none : FactKind → Bool
tells_none splicings = false
tells_none _ = true

none_kind : (f : Fact) → tells_none (kind_of_fact f) ≡ true → NoSplice f
none_kind (edited n e) is = absurd (false≢true is)
none_kind f is = tt

by_effects : (ls : Limits) (e : Effects) → list_all leaves_texts e.makes ≡ true → list_all tells_none e.tells ≡ true → (m : ModelEditor) → IsModestModel ls m → (a : Answer) → MakesOnly e a
    → Modestly ls m a
unfolding MakesOnly
by_effects ls e made told m h (refused f) only = fault_modestly ls m f
by_effects ls e made told m h (replied t operations facts) only =
    done_plain ls m t operations facts h (by_kinds kind_of_operation leaves_texts IsPlain plain_kind e.makes made operations only.0)
    (by_kinds kind_of_fact tells_none NoSplice none_kind e.tells told facts only.1)

abbrev pub RowModest : Limits → Row → Type 0
RowModest ls row = (m : ModelEditor) → IsModestModel ls m → (session : ℕ) (args : List Arg) → Modestly ls m (row (seen_of m) session args)

plain_row : (ls : Limits) (e : Effects) (row : Row) → list_all leaves_texts e.makes ≡ true → list_all tells_none e.tells ≡ true → HasEffects e row → RowModest ls row
plain_row ls e row made told has = λ m h session args. by_effects ls e made told m h (row (seen_of m) session args) (has (seen_of m) session args)

-- the words that rows are made of
unless_modestly : (ls : Limits) (m : ModelEditor) (fs : List (Bool × ApiFault)) (a : Answer) → Modestly ls m a → Modestly ls m (unless fs a)
unless_modestly ls m fs a = keeps_unless (Modestly ls m) (fault_modestly ls m) fs a

found_modestly : (ls : Limits) (m : ModelEditor) (A : Type 0) (o : Option A) (f : ApiFault) (next : A → Answer) → ((a : A) → o ≡ Some a → Modestly ls m (next a)) → Modestly ls m (or_refused o f next)
found_modestly ls m A o f next h = keeps_or_refused (Modestly ls m) (fault_modestly ls m) o f next h

test_modestly : (ls : Limits) (m : ModelEditor) (test : Bool) (f : ApiFault) (a : Answer) → (test ≡ false → Modestly ls m a) → Modestly ls m (if test then refused f else a)
test_modestly ls m true f a h = fault_modestly ls m f
test_modestly ls m false f a h = h refl

live_modestly : (ls : Limits) (m : ModelEditor) (o : Option ModelBuffer) (f : ApiFault) (next : SeenBuffer → Answer) → ((b : ModelBuffer) → o ≡ Some b → Modestly ls m (next (seen_buffer b)))
    → Modestly ls m (or_refused (option_map seen_buffer o) f next)
live_modestly ls m None f next h = fault_modestly ls m f
live_modestly ls m (Some b) f next h = h b refl

buffer_modestly : (ls : Limits) (m : ModelEditor) (n : ℤ) (next : ℤ → SeenBuffer → Answer)
    → ((k : ℤ) (b : ModelBuffer) → at_handle m.buffers k ≡ Some b → Modestly ls m (next k (seen_buffer b))) → Modestly ls m (on_buffer (seen_of m) n next)
buffer_modestly ls m n next h =
    live_modestly ls m (at_handle m.buffers (or_current (current_buffer m.stage.workspace) n)) _ (next (or_current (current_buffer m.stage.workspace) n))
    (h (or_current (current_buffer m.stage.workspace) n))

-- ---- a splice within the limits
all_short : (most : ℕ) (lines : List (List ℕ)) → most < 2 ^ 32 → list_any (λ line. nat_lt most (length line)) lines ≡ false → AllByRecursion IsShort lines
all_short most [] low e = tt
all_short most (line ∷ lines) low e =
    let parts = neither (nat_lt most (length line)) (list_any (λ l. nat_lt most (length l)) lines) e in
    let own : nat_lt most (length line) ≡ false = parts.0 in
    (grind (arith, nat_tests), all_short most lines low parts.1)

few_lines : (most count : ℕ) → most < 2 ^ 32 → nat_lt most count ≡ false → count < 2 ^ 32
few_lines most count low e = grind (arith, nat_tests)

few_ticks : (most : ℤ) (tick : ℕ) → FitsSigned w64 most → int_lt most (pos tick) ≡ false → tick < 2 ^ 63
few_ticks (pos t) tick fits e =
    let low : tick ≤ t = grind (arith, ints) in
    omega (arith, fits.sfits, low)
few_ticks (negsuc t) tick fits e = absurd (let high : int_lt (negsuc t) (pos tick) ≡ true = grind (arith, ints) in false≢true (sym e ∙ high))

pub short_take : (n : ℕ) (lines : List (List ℕ)) → AllByRecursion IsShort lines → AllByRecursion IsShort (take n lines)
short_take zero lines all = tt
short_take (suc n) [] all = tt
short_take (suc n) (line ∷ lines) all = (all.0, short_take n lines all.1)

pub short_drop : (n : ℕ) (lines : List (List ℕ)) → AllByRecursion IsShort lines → AllByRecursion IsShort (drop n lines)
short_drop zero lines all = all
short_drop (suc n) [] all = tt
short_drop (suc n) (line ∷ lines) all = short_drop n lines all.1

short_splice : (lines new : List (List ℕ)) (from to : ℕ) → AllByRecursion IsShort lines → AllByRecursion IsShort new → AllByRecursion IsShort (splice lines from to new)
short_splice lines new from to all more = both_all IsShort (take from lines) (new ++ drop to lines) (short_take from lines all) (both_all IsShort new (drop to lines) more (short_drop to lines all))

-- what a fact about one splice says of it
same_last : (xs : List Splice) (a b : Splice) → xs ++ a ∷ [] ≡ xs ++ b ∷ [] → a ≡ b
same_last [] a b e = cc
same_last (x ∷ xs) a b e = let r : xs ++ a ∷ [] ≡ xs ++ b ∷ [] = cc in same_last xs a b r

own_told : (n : ℤ) (p q : Past) (R : Type 0) → ToldOfLive (int_eq n n) p q R → R
own_told n p q R h = (subst (λ (b : Bool). ToldOfLive b p q R) (int_eq-itself n) h).1

record OneTold (p : Past) (e : Spliced) (s : Splice) : Type 0 where
  event : e ≡ splice_event (text_then p.splices) (tick_then p.splices + 1) s
  fits : FitsLines (text_then p.splices) s

one_told : (n : ℤ) (p q : Past) (e : Spliced) (s : Splice) → FactsTell n (edited n e ∷ []) p q → q.splices ≡ p.splices ++ s ∷ [] → OneTold p e s
one_told n p q e s h made =
    let told = own_told n p h.0 (IsSpliceTold p e h.0) h.1 in
    let later : q.splices ≡ p.splices ++ told.made ∷ [] = ap (λ (x : Past). x.splices) h.2 ∙ ap (λ (x : Past). x.splices) told.becomes in
    let same : told.made ≡ s = same_last p.splices told.made s (sym later ∙ made) in
    record {
      event = subst (λ (x : Splice). e ≡ splice_event (text_then p.splices) (tick_then p.splices + 1) x) same told.told;
      fits = subst (λ (x : Splice). FitsLines (text_then p.splices) x) same told.fits;
    }

splice_here : (n : ℤ) (s : Splice) (m : ModelEditor) (b : ModelBuffer) → at_handle m.buffers n ≡ Some b → at_handle (after_operation (spliced n s) m).buffers n ≡ Some (with_splice s b)
splice_here n s m b there =
    at_updated n n (with_splice s) m.buffers
    ∙ ap (λ (t : Bool). cond t (option_map (with_splice s) (at_handle m.buffers n)) (at_handle m.buffers n)) (int_eq-itself n)
    ∙ ap (option_map (with_splice s)) there

-- the past of another buffer
other_told : (n k : ℤ) (es : List Spliced) (p q : Past) → int_eq n k ≡ false → FactsTell k (map (edited n) es) p q → q ≡ p
other_told n k [] p q apart h = h
other_told n k (e ∷ es) p q apart h =
    other_told n k es h.0 q apart h.2 ∙ subst (λ (b : Bool). ToldOfLive b p h.0 (IsSpliceTold p e h.0) → h.0 ≡ p) (sym apart) (λ x. x) h.1

-- pasts, where facts tell of splices of one buffer
pasts_by : (n : ℤ) (m later : ModelEditor) (es : List Spliced) → ((k : ℤ) → FactsTell k (map (edited n) es) (past_at m k) (past_at later k)) → ((k : ℤ) → IsModestPast (past_at m k))
    → IsModestPast (past_at later n) → (k : ℤ) → IsModestPast (past_at later k)
pasts_by n m later es tell were here k = by_handle (int_eq n k) refl
  where
    by_handle : (t : Bool) → int_eq n k ≡ t → IsModestPast (past_at later k)
    by_handle true same = subst (λ (j : ℤ). IsModestPast (past_at later j)) (same_int n k same) here
    by_handle false apart = subst (λ (p : Past). IsModestPast p) (sym (other_told n k es (past_at m k) (past_at later k) apart (tell k))) (were k)

no_part : (a b c : Bool) → (a || b || c) ≡ false → (a ≡ false) × (b ≡ false) × (c ≡ false)
no_part false false false e = (refl, refl, refl)
no_part false false true e = absurd cc
no_part false true c e = absurd cc
no_part true b c e = absurd cc

within_parts : (empty passes : Bool) → (not empty && passes) ≡ false → empty ≡ false → passes ≡ false
within_parts true passes e f = absurd (false≢true (sym f))
within_parts false passes e f = e

module _ (ls : Limits) (types : AreTyped ls) (m : ModelEditor) (h : IsModestModel ls m) (n : ℤ) (b : ModelBuffer) (there : at_handle m.buffers n ≡ Some b) where
  -- the text after it
  after_splice : (s : Splice) → event_passes ls (length (lines_of (text_after (flat (lines_of (text_of b))) s))) (event_of_splice (seen_buffer b) s) ≡ false
      → OneTold (past_at m n) (event_of_splice (seen_buffer b) s) s → IsTellable (text_after (text_of b) s) × (tick_of b + 1 < 2 ^ 63)
  after_splice s within told =
      let e : Spliced = event_of_splice (seen_buffer b) s in
      let count : ℕ = length (lines_of (text_after (flat (lines_of (text_of b))) s)) in
      let is : IsSoundBuffer b = h.sound.buffers n b there in
      let none = no_part (nat_lt ls.lines count) (list_any (λ line. nat_lt ls.line_bytes (length line)) e.edit.lines) (int_lt ls.ticks e.tick) within in
      let now : text_then (past_at m n).splices ≡ text_of b = ap text_then (past_of m n b there) ∙ sym (text_is b is) in
      let same : lines_in_place (text_then (past_at m n).splices) s ≡ e.edit.lines = ap (λ (x : Spliced). x.edit.lines) (sym told.event) in
      let new : AllByRecursion IsShort (lines_in_place (text_then (past_at m n).splices) s) =
      subst (λ (l : List (List ℕ)). AllByRecursion IsShort l) (sym same) (all_short ls.line_bytes e.edit.lines types.line_bytes none.1) in
      let old : AllByRecursion IsShort (lines_of (text_then (past_at m n).splices)) =
      subst (λ (t : List ℕ). AllByRecursion IsShort (lines_of t)) (sym now) (text_now ls m n b h there).short in
      let short : AllByRecursion IsShort (lines_of (text_after (text_then (past_at m n).splices) s)) =
      subst (λ (l : List (List ℕ)). AllByRecursion IsShort l) told.fits.lines (short_splice (lines_of (text_then (past_at m n).splices)) (lines_in_place (text_then (past_at m n).splices) s) _ _ old new) in (
        record {
          few = subst (λ (t : List ℕ). length (lines_of (text_after t s)) < 2 ^ 32) (flat_lines b is) (few_lines ls.lines count types.lines none.0);
          short = subst (λ (t : List ℕ). AllByRecursion IsShort (lines_of (text_after t s))) now short;
        },
        few_ticks ls.ticks (tick_of b + 1) types.ticks none.2,
      )

  splice_modest : (s : Splice) → TellsAll m (after_operation (spliced n s) m) (edited n (event_of_splice (seen_buffer b) s) ∷ [])
      → event_passes ls (length (lines_of (text_after (flat (lines_of (text_of b))) s))) (event_of_splice (seen_buffer b) s) ≡ false → IsModestModel ls (after_operation (spliced n s) m)
  splice_modest s tells within =
      let e : Spliced = event_of_splice (seen_buffer b) s in
      let later : ModelEditor = after_operation (spliced n s) m in
      let made : (past_at (after_operation (spliced n s) m) n).splices ≡ b.splices ++ s ∷ [] = past_of later n (with_splice s b) (splice_here n s m b there) in
      let was : (past_at m n).splices ≡ b.splices = past_of m n b there in
      let told : OneTold (past_at m n) (event_of_splice (seen_buffer b) s) s =
      one_told n (past_at m n) (past_at later n) e s (tells.tell n) (made ∙ ap (λ (ss : List Splice). ss ++ s ∷ []) (sym was)) in
      let good = after_splice s within told in
      let steps : Steps (10 ∷ []) (b.splices ++ s ∷ []) =
      steps_both (10 ∷ []) b.splices (s ∷ []) (subst (λ (ss : List Splice). Steps (10 ∷ []) ss) was (h.pasts n).0)
      (subst (λ (t : List ℕ). IsTellable (text_after t s)) (text_is b (h.sound.buffers n b there)) good.0, tt) in
      let tick : tick_then (b.splices ++ s ∷ []) < 2 ^ 63 = omega (arith, length-append b.splices (s ∷ []), good.1) in
      record {
        sound = tells.sound;
        pasts = pasts_by n m later (e ∷ []) tells.tell h.pasts (subst (λ (ss : List Splice). Steps (10 ∷ []) ss) (sym made) steps, subst (λ (ss : List Splice). tick_then ss < 2 ^ 63) (sym made) tick);
        live =
            updated_live n (with_splice s) m later refl (λ x at is.
            let same : b ≡ x = same_Some b x (sym there ∙ at) in
            subst (λ (y : ModelBuffer). IsModest (with_splice s y)) same (spliced_modest b s (h.sound.buffers n b there) good.0 (subst (λ (y : ModelBuffer). IsModest y) (sym same) is))) h.live;
        same = same_limits (spliced n s) m ∙ h.same;
      }

  put_spliced : (s : Splice) (empty : Bool) → is_empty_splice s ≡ empty → splice_passes_limit ls (seen_buffer b) s ≡ false
      → Modestly ls m (if empty then reply_of nil else replied nil (spliced n s ∷ []) (edited n (event_of_splice (seen_buffer b) s) ∷ []))
  unfolding AnswerTells AnswerModest
  put_spliced s true is within = reply_modestly ls m nil h
  put_spliced s false is within = λ tells.
      splice_modest s tells
      (within_parts (is_empty_splice s) (event_passes ls (length (lines_of (text_after (flat (lines_of (text_of b))) s))) (event_of_splice (seen_buffer b) s)) within is)

  put_modestly : (new : List (List ℕ)) (s : Splice) → Modestly ls m (put_answer (seen_of m) n (seen_buffer b) new s)
  put_modestly new s =
      let answer : Answer = splice_answer n (seen_buffer b) s in
      test_modestly ls m (list_any has_newline new) newline_inside
      (if not (is_empty_splice s) && not b.modifiable then refused not_modifiable else (if splice_passes_limit m.stage.limits (seen_buffer b) s then refused limit_reached else answer)) (λ clean.
      test_modestly ls m (not (is_empty_splice s) && not b.modifiable) not_modifiable (if splice_passes_limit m.stage.limits (seen_buffer b) s then refused limit_reached else answer) (λ free.
      test_modestly ls m (splice_passes_limit m.stage.limits (seen_buffer b) s) limit_reached answer (λ within.
      put_spliced s (is_empty_splice s) refl (subst (λ (l : Limits). splice_passes_limit l (seen_buffer b) s ≡ false) h.same within))))

set_lines : (ls : Limits) → AreTyped ls → RowModest ls nvim_buf_set_lines
set_lines ls types m h session args =
    buffer_modestly ls m (number_at args 0) (λ n b.
    rows_answer (seen_of m) args n b (row_of_index (number_at args 1) (length b.lines)) (row_of_index (number_at args 2) (length b.lines))) (λ n b there.
    let from : ℕ = row_of_index (number_at args 1) (length (lines_of (text_of b))) in
    let to : ℕ = row_of_index (number_at args 2) (length (lines_of (text_of b))) in
    unless_modestly ls m ((range_leaves args (length (lines_of (text_of b))), out_of_bounds) ∷ (nat_lt to from, start_after_end) ∷ [])
    (put_answer (seen_of m) n (seen_buffer b) (lines_at args 4) (rows_splice (seen_buffer b).next (lines_of (text_of b)) from to (lines_put from to (lines_at args 4) (lines_of (text_of b)))))
    (put_modestly ls types m h n b there (lines_at args 4)
    (rows_splice (seen_buffer b).next (lines_of (text_of b)) from to (lines_put from to (lines_at args 4) (lines_of (text_of b))))))

set_text : (ls : Limits) → AreTyped ls → RowModest ls nvim_buf_set_text
set_text ls types m h session args =
    let done : ℤ → SeenBuffer → Pos → Pos → Answer = λ n b start stop.
    put_answer (seen_of m) n b (lines_at args 5) (text_splice b.next b.lines start stop (or_empty (lines_at args 5))) in
    let last : ℤ → SeenBuffer → Pos → Pos → Answer = λ n b start stop.
    if is_before stop start then refused start_after_end else done n b start stop in
    let second : ℤ → SeenBuffer → Pos → Answer = λ n b start.
    or_refused (place_named b.lines (number_at args 3) (number_at args 4)) out_of_bounds (last n b start) in
    let first : ℤ → SeenBuffer → Answer = λ n b.
    or_refused (place_named b.lines (number_at args 1) (number_at args 2)) out_of_bounds (second n b) in
    buffer_modestly ls m (number_at args 0) first (λ n b there.
    found_modestly ls m Pos (place_named (lines_of (text_of b)) (number_at args 1) (number_at args 2)) out_of_bounds (second n (seen_buffer b)) (λ start is_start.
    found_modestly ls m Pos (place_named (lines_of (text_of b)) (number_at args 3) (number_at args 4)) out_of_bounds (last n (seen_buffer b) start) (λ stop is_stop.
    test_modestly ls m (is_before stop start) start_after_end (done n (seen_buffer b) start stop) (λ order.
    put_modestly ls types m h n b there (lines_at args 5) (text_splice (seen_buffer b).next (lines_of (text_of b)) start stop (or_empty (lines_at args 5)))))))

-- ---- undo commands
-- the splices that legs make
among_both : (n : ℤ) (cs ds : List Operation) → splices_among n (cs ++ ds) ≡ splices_among n cs ++ splices_among n ds
among_both n [] ds = refl
among_both n (c ∷ cs) ds = ap (λ (l : List Splice). splices_in n c ++ l) (among_both n cs ds) ∙ sym (append_assoc (splices_in n c) (splices_among n cs) (splices_among n ds))

among_backs : (n : ℤ) (ss : List Splice) → splices_among n (map (spliced_back n) ss) ≡ ss
among_backs n [] = refl
among_backs n (s ∷ ss) =
    ap (λ (t : Bool). cond t (s ∷ []) [] ++ splices_among n (map (spliced_back n) ss)) (int_eq-itself n) ∙ ap (λ (l : List Splice). s ∷ l) (among_backs n ss)

among_leg : (n : ℤ) (first : List ℕ) (t : Undo Kept) (leg : Leg) → splices_among n (leg_operations n first t leg) ≡ leg_splices first t leg
among_leg n first t leg =
    among_both n (map (spliced_back n) (leg_splices first t leg)) (stepped n leg ∷ [])
    ∙ append-nil (splices_among n (map (spliced_back n) (leg_splices first t leg)))
    ∙ among_backs n (leg_splices first t leg)

among_legs : (n : ℤ) (first : List ℕ) (t : Undo Kept) (legs : List Leg) → splices_among n (flat_map (leg_operations n first t) legs) ≡ legs_splices first t legs
among_legs n first t [] = refl
among_legs n first t (leg ∷ legs) =
    among_both n (leg_operations n first t leg) (flat_map (leg_operations n first t) legs)
    ∙ ap (λ (l : List Splice). l ++ splices_among n (flat_map (leg_operations n first t) legs)) (among_leg n first t leg)
    ∙ ap (λ (l : List Splice). leg_splices first t leg ++ l) (among_legs n first t legs)

-- an editor while the legs of one of its buffers are gone
record LegsAt (n : ℤ) (m : ModelEditor) : Type 0 where
  live : AllModest m
  buffer : ModelBuffer
  there : at_handle m.buffers n ≡ Some buffer
  closed : buffer.unsealed ≡ []

at_own : (n : ℤ) (f : ModelBuffer → ModelBuffer) (m later : ModelEditor) (b : ModelBuffer) → later.buffers ≡ updated_at n f m.buffers → at_handle m.buffers n ≡ Some b → at_handle later.buffers n ≡ Some (f b)
at_own n f m later b same there =
    ap (λ (es : List (ℤ × ModelBuffer)). at_handle es n) same
    ∙ at_updated n n f m.buffers
    ∙ ap (λ (t : Bool). cond t (option_map f (at_handle m.buffers n)) (at_handle m.buffers n)) (int_eq-itself n)
    ∙ ap (option_map f) there

updated_legs : (n : ℤ) (f : ModelBuffer → ModelBuffer) (m later : ModelEditor) (h : LegsAt n m) → later.buffers ≡ updated_at n f m.buffers → (IsModest h.buffer → IsModest (f h.buffer)) → (f h.buffer).unsealed ≡ h.buffer.unsealed
    → LegsAt n later
updated_legs n f m later h same keeps unsealed = record {
  live = updated_live n f m later same
      (λ b at is.
      let here : h.buffer ≡ b = same_Some h.buffer b (sym h.there ∙ at) in
      subst (λ (x : ModelBuffer). IsModest x → IsModest (f x)) here keeps is) h.live;
  buffer = f h.buffer;
  there = at_own n f m later h.buffer same h.there;
  closed = unsealed ∙ h.closed;
}

abbrev GoesAt : ℤ → Operation → Type 0
GoesAt n (spliced_back k s) = k ≡ n
GoesAt n (stepped k leg) = k ≡ n
GoesAt n _ = ⊥

goes_step : (n : ℤ) (c : Operation) (m : ModelEditor) → GoesAt n c → LegsAt n m → LegsAt n (after_operation c m)
goes_step n (spliced_back k s) m is h =
    subst (λ (j : ℤ). LegsAt n (after_operation (spliced_back j s) m)) (sym is)
    (updated_legs n (with_splice_back s) m (after_operation (spliced_back n s) m) h refl (λ x. record { first = x.first; changes = x.changes; since = x.since }) refl)
goes_step n (stepped k leg) m is h =
    subst (λ (j : ℤ). LegsAt n (after_operation (stepped j leg) m)) (sym is)
    (updated_legs n (λ b. record b { undo = tree_after_leg leg b.undo }) m (after_operation (stepped n leg) m) h refl (λ x. stepped_modest h.buffer leg h.closed x) refl)
goes_step n c m is h = absurd is

goes_all : (n : ℤ) (cs : List Operation) (m : ModelEditor) → AllByRecursion (GoesAt n) cs → LegsAt n m → LegsAt n (after_operations cs m)
goes_all n [] m are h = h
goes_all n (c ∷ cs) m are h = goes_all n cs (after_operation c m) are.1 (goes_step n c m are.0 h)

backs_go : (n : ℤ) (ss : List Splice) → AllByRecursion (GoesAt n) (map (spliced_back n) ss)
backs_go n [] = tt
backs_go n (s ∷ ss) = (refl, backs_go n ss)

legs_go : (n : ℤ) (first : List ℕ) (t : Undo Kept) (legs : List Leg) → AllByRecursion (GoesAt n) (flat_map (leg_operations n first t) legs)
legs_go n first t [] = tt
legs_go n first t (leg ∷ legs) =
    both_all (GoesAt n) (leg_operations n first t leg) (flat_map (leg_operations n first t) legs)
    (both_all (GoesAt n) (map (spliced_back n) (leg_splices first t leg)) (stepped n leg ∷ []) (backs_go n (leg_splices first t leg)) (refl, tt))
    (legs_go n first t legs)

few_steps : (ls : Limits) (tick count : ℕ) (none : Bool) → FitsSigned w64 ls.ticks → (count == 0) ≡ none → tick < 2 ^ 63 → (not none && int_lt ls.ticks (pos (tick + count))) ≡ false → tick + count < 2 ^ 63
few_steps ls tick count true fits e low within = let no : count ≡ 0 = grind (arith, nat_tests) in omega (arith, no, low)
few_steps ls tick count false fits e low within = few_ticks ls.ticks (tick + count) fits within

module _ (ls : Limits) (types : AreTyped ls) (m : ModelEditor) (h : IsModestModel ls m) (n : ℤ) (b : ModelBuffer) (there : at_handle m.buffers n ≡ Some b) (legs : List Leg) where
  tree_is : sealed_undo (seen_buffer b) ≡ (with_seal b).undo
  tree_is = ap (λ (t : List ℕ). closed_with b.unsealed t b.undo) (flat_lines b (h.sound.buffers n b there))

  current_text : text_of b ≡ kept_text b.first (with_seal b).undo (with_seal b).undo.current
  unfolding text_of
  current_text = sym (sealed_stands b (h.sound.buffers n b there)).valid.since.makes

  steps_of : (to : ℕ) → Leads (sealed_undo (seen_buffer b)) (sealed_undo (seen_buffer b)).current legs to → Steps (text_of b) (undo_splices (seen_buffer b) legs)
  steps_of to way =
      subst (λ (t : Undo Kept). Leads t t.current legs to → Steps (text_of b) (legs_splices b.first t legs)) (sym tree_is)
      (λ w. legs_step b.first (with_seal b).undo (h.live n b there).first (sealed_stands b (h.sound.buffers n b there)).valid.changes
      (sealed_modest b (h.sound.buffers n b there) (text_now ls m n b h there) (h.live n b there)).changes legs (with_seal b).undo.current to (text_of b) current_text w) way

  legs_modest : (to : ℕ) → Leads (sealed_undo (seen_buffer b)) (sealed_undo (seen_buffer b)).current legs to → tick_of b + length (undo_splices (seen_buffer b) legs) < 2 ^ 63
      → TellsAll m (after_operations (undo_operations n (seen_buffer b) legs) m) (edits n (seen_buffer b) (undo_splices (seen_buffer b) legs))
      → IsModestModel ls (after_operations (undo_operations n (seen_buffer b) legs) m)
  legs_modest to way few tells =
      let ss : List Splice = undo_splices (seen_buffer b) legs in
      let operations : List Operation = undo_operations n (seen_buffer b) legs in
      let between : ModelEditor = after_operation (sealed_in n) m in
      let later : ModelEditor = after_operations (undo_operations n (seen_buffer b) legs) m in
      let begins : LegsAt n (after_operation (sealed_in n) m) = record {
        live = updated_live n with_seal m (after_operation (sealed_in n) m) refl (λ x at is. sealed_modest x (h.sound.buffers n x at) (text_now ls m n x h at) is) h.live;
        buffer = with_seal b;
        there = at_own n with_seal m (after_operation (sealed_in n) m) b refl there;
        closed = refl;
      } in
      let ends = goes_all n (flat_map (leg_operations n b.first (sealed_undo (seen_buffer b))) legs) between (legs_go n b.first (sealed_undo (seen_buffer b)) legs) begins in
      let grown : ends.buffer.splices ≡ b.splices ++ undo_splices (seen_buffer b) legs =
      (operations_make_texts operations m n h.sound.numbered b ends.buffer there ends.there).grown.splices
      ∙ ap (λ (l : List Splice). b.splices ++ l) (among_legs n b.first (sealed_undo (seen_buffer b)) legs) in
      let made : (past_at (after_operations (undo_operations n (seen_buffer b) legs) m) n).splices ≡ b.splices ++ undo_splices (seen_buffer b) legs = past_of later n ends.buffer ends.there ∙ grown in
      let steps : Steps (10 ∷ []) (b.splices ++ undo_splices (seen_buffer b) legs) =
      steps_both (10 ∷ []) b.splices ss (subst (λ (l : List Splice). Steps (10 ∷ []) l) (past_of m n b there) (h.pasts n).0)
      (subst (λ (t : List ℕ). Steps t (undo_splices (seen_buffer b) legs)) (text_is b (h.sound.buffers n b there)) (steps_of to way)) in
      let tick : tick_then (b.splices ++ undo_splices (seen_buffer b) legs) < 2 ^ 63 = omega (arith, length-append b.splices ss, few) in
      record {
        sound = tells.sound;
        pasts = pasts_by n m later (splice_events (flat (lines_of (text_of b))) (tick_of b) ss) tells.tell h.pasts
            (subst (λ (l : List Splice). Steps (10 ∷ []) l) (sym made) steps, subst (λ (l : List Splice). tick_then l < 2 ^ 63) (sym made) tick);
        live = ends.live;
        same = limits_stay operations m ∙ h.same;
      }

  legs_done : (to : ℕ) → Leads (sealed_undo (seen_buffer b)) (sealed_undo (seen_buffer b)).current legs to → tick_of b + length (undo_splices (seen_buffer b) legs) < 2 ^ 63
      → Modestly ls m (replied nil (undo_operations n (seen_buffer b) legs) (edits n (seen_buffer b) (undo_splices (seen_buffer b) legs)))
  unfolding AnswerTells AnswerModest
  legs_done to way few tells = legs_modest to way few tells

  legs_modestly : (to : ℕ) → Leads (sealed_undo (seen_buffer b)) (sealed_undo (seen_buffer b)).current legs to → Modestly ls m (legs_answer (seen_of m) n (seen_buffer b) legs)
  legs_modestly to way =
      let ss : List Splice = undo_splices (seen_buffer b) legs in
      let done : Answer = replied nil (undo_operations n (seen_buffer b) legs) (edits n (seen_buffer b) (undo_splices (seen_buffer b) legs)) in
      test_modestly ls m (not (length ss == 0) && not b.modifiable) not_modifiable
      (if not (length ss == 0) && int_lt m.stage.limits.ticks (pos (tick_of b + length ss)) then refused limit_reached else done) (λ free.
      test_modestly ls m (not (length ss == 0) && int_lt m.stage.limits.ticks (pos (tick_of b + length ss))) limit_reached done (λ within.
      legs_done to way
      (few_steps ls (tick_of b) (length ss) (length ss == 0) types.ticks refl (tick_now ls m n b h there)
      (subst (λ (l : Limits). (not (length ss == 0) && int_lt l.ticks (pos (tick_of b + length ss))) ≡ false) h.same within))))

not_above : (last k : ℕ) → nat_lt last k ≡ false → k ≤ last
not_above last k low = grind (arith, nat_tests)

order_modestly : (ls : Limits) → AreTyped ls → (m : ModelEditor) → IsModestModel ls m → (c : Order) → Modestly ls m (command_answer (seen_of m) c)
order_modestly ls types m h undo =
    buffer_modestly ls m (pos 0) (λ n b. legs_answer (seen_of m) n b (undo_legs (sealed_undo b))) (λ n b there.
    let tree = sealed_undo (seen_buffer b) in
    let way = undo_leads tree (tree_sound b (h.sound.buffers n b there)) in
    legs_modestly ls types m h n b there (undo_legs (sealed_undo (seen_buffer b))) way.0 way.1)
order_modestly ls types m h redo =
    buffer_modestly ls m (pos 0) (λ n b. legs_answer (seen_of m) n b (redo_legs (sealed_undo b))) (λ n b there.
    let tree = sealed_undo (seen_buffer b) in
    let way = redo_leads tree (tree_sound b (h.sound.buffers n b there)) in
    legs_modestly ls types m h n b there (redo_legs (sealed_undo (seen_buffer b))) way.0 way.1)
order_modestly ls types m h (undo_to k) =
    let done : ℤ → SeenBuffer → Answer = λ n b. legs_answer (seen_of m) n b (legs_to k (sealed_undo b)) in
    buffer_modestly ls m (pos 0) (λ n b. if nat_lt (last (sealed_undo b)) k then refused out_of_bounds else done n b) (λ n b there.
    let tree = sealed_undo (seen_buffer b) in
    test_modestly ls m (nat_lt (last tree) k) out_of_bounds (done n (seen_buffer b)) (λ low.
    let way = to_leads tree (tree_sound b (h.sound.buffers n b there)) k (not_above (last tree) k low) in
    legs_modestly ls types m h n b there (legs_to k (sealed_undo (seen_buffer b))) way.0 way.1))
order_modestly ls types m h tabnew =
    unless_modestly ls m ((no_tab_left m.stage, no_id_left) ∷ (tabs_are_full (seen_of m), limit_reached) ∷ []) (replied nil (buffer_made true ∷ tab_made m.stage.next_buffer ∷ []) [])
    (done_plain ls m nil (buffer_made true ∷ tab_made m.stage.next_buffer ∷ []) [] h (tt, (tt, tt)) tt)
order_modestly ls types m h tabclose =
    unless_modestly ls m ((has_one_tabpage m.stage.workspace, last_one) ∷ []) (replied nil (tab_closed m.stage.workspace.tabpage ∷ []) [])
    (done_plain ls m nil (tab_closed m.stage.workspace.tabpage ∷ []) [] h (tt, tt) tt)
order_modestly ls types m h quit_all = done_plain ls m nil [] (quit ∷ []) h tt (tt, tt)

command : (ls : Limits) → AreTyped ls → RowModest ls nvim_command
command ls types m h session args =
    found_modestly ls m Order (command_of (string_at args 0)) (unknown_name (string_at args 0)) (command_answer (seen_of m)) (λ c is. order_modestly ls types m h c)

-- ---- all rows
buffers_modest : (ls : Limits) → AreTyped ls → (method : BufferMethod) → RowModest ls (buffer_row method)
buffers_modest ls types Command = command ls types
buffers_modest ls types BufSetLines = set_lines ls types
buffers_modest ls types BufSetText = set_text ls types
buffers_modest ls types method = plain_row ls (buffer_effects method) (buffer_row method) refl refl (buffer_makes method)

marks_leave : (method : MarkMethod) → list_all leaves_texts (mark_effects method).makes ≡ true
marks_leave CreateNamespace = refl
marks_leave method = refl

marks_tell_none : (method : MarkMethod) → list_all tells_none (mark_effects method).tells ≡ true
marks_tell_none CreateNamespace = refl
marks_tell_none method = refl

windows_leave : (method : WindowMethod) → list_all leaves_texts (window_effects method).makes ≡ true
windows_leave ListWins = refl
windows_leave method = refl

windows_tell_none : (method : WindowMethod) → list_all tells_none (window_effects method).tells ≡ true
windows_tell_none ListWins = refl
windows_tell_none method = refl

uis_leave : (method : UiMethod) → list_all leaves_texts (ui_effects method).makes ≡ true
uis_leave ListUis = refl
uis_leave method = refl

uis_tell_none : (method : UiMethod) → list_all tells_none (ui_effects method).tells ≡ true
uis_tell_none ListUis = refl
uis_tell_none method = refl

pub rows_modest : (ls : Limits) → AreTyped ls → (method : Method) → IfSome (row_of method) (RowModest ls)
unfolding row_of
rows_modest ls types Atomic = tt
rows_modest ls types PassedOver = plain_row ls no_effects passed_over refl refl passed_over_makes
rows_modest ls types (Buffer method) = buffers_modest ls types method
rows_modest ls types (Mark method) = plain_row ls (mark_effects method) (mark_row method) (marks_leave method) (marks_tell_none method) (mark_makes method)
rows_modest ls types (Window method) = plain_row ls (window_effects method) (window_row method) (windows_leave method) (windows_tell_none method) (window_makes method)
rows_modest ls types (Ui method) = plain_row ls (ui_effects method) (ui_row method) (uis_leave method) (uis_tell_none method) (ui_makes method)
