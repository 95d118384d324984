-- A session whose calls put no UI of its own has none, and so no batch of it has an editor.
use Rattle.std.proofs.Common.{◌≡◌, ℕ, zero, suc, ◌+◌, ℤ, List, [], ◌∷◌, ◌++◌, map, refl, sym, ap, subst, ◌∙◌, arith, cond, not, ◌||◌, Bool, true, false, Option, Some, None, Result, Ok, Err}
use Rattle.std.specs.Prelude.{option_and_then, option_map, unwrap_or, ◌==◌, ◌&&◌, bytes_eq, IfSome, nat_lt}
use Rattle.std.specs.List.{list_any, list_all, AllByRecursion}
use Rattle.std.proofs.lemmas.Bool.{false≢true}
use Rattle.std.proofs.lemmas.Bool.Decides.{nat_tests}
use Rattle.std.proofs.lemmas.Option.{none-some, same_Some}
use Rattle.nv_value.specs.Content.{Tree, nil}
use Rattle.nv_value.specs.declared.fault.ApiFault.{ApiFault}
use Rattle.nv_args.specs.Arguments.{tree_list, last_pairs}
use Rattle.nv_args.specs.Faults.{out_of_bounds, no_room, limit_reached, not_attached, already_attached}
use Rattle.nv_args.specs.KeyValues.{number_between}
use Rattle.nv_args.specs.Maps.{map_fault}
use Rattle.nv_args.specs.Reading.{Arg, read, values_at, number_at, string_at, object_at, pairs_at, name_of_call, arguments_of_call}
use Rattle.nv_args.specs.Table.{Signature, method_named}
use Rattle.nv_args.specs.declared.methods.Method.{Method}
use Rattle.nv_args.specs.declared.methods.Method.TheVariants.{Atomic, PassedOver, Buffer, Mark, Window, Ui}
use Rattle.nv_args.specs.declared.methods.BufferMethod.{BufferMethod}
use Rattle.nv_args.specs.declared.methods.MarkMethod.{MarkMethod}
use Rattle.nv_args.specs.declared.methods.WindowMethod.{WindowMethod}
use Rattle.nv_args.specs.declared.methods.UiMethod.{UiMethod}
use Rattle.nv_args.specs.declared.methods.BufferMethod.TheVariants.{CreateBuf}
use Rattle.nv_args.specs.declared.methods.MarkMethod.TheVariants.{CreateNamespace}
use Rattle.nv_args.specs.declared.methods.WindowMethod.TheVariants.{ListWins}
use Rattle.nv_args.specs.declared.methods.UiMethod.TheVariants.{UiAttach, UiTryResize, UiSetOption}
use Rattle.nv_rpc.specs.Calls.{Call, request, notice}
use Rattle.nv_model.specs.Answers.{Answer, refused, replied, or_refused}
use Rattle.nv_model.specs.Buffers.{Splice, ModelBuffer}
use Rattle.nv_model.specs.Editors.{ModelEditor, at_handle, handles_of}
use Rattle.nv_model.specs.Kinds.{OperationKind, puts_uis, kind_of_operation, Effects, no_effects, MakesOnly, HasEffects}
use Rattle.nv_model.specs.Operations.{Operation, spliced, spliced_back, sealed_in, ui_put, uis_dropped, stage_spliced, after_operation, after_operations}
use Rattle.nv_model.specs.Rows.{Row}
use Rattle.nv_model.specs.Seen.{Seen, seen_of}
use Rattle.nv_model.specs.Stage.{Stage, with_uis, ui_among, other_uis}
use Rattle.nv_model.specs.declared.parts.Limits.{Limits}
use Rattle.nv_model.specs.declared.parts.Ui.{Ui as SessionUi}
use Rattle.nv_model.proofs.AnswersTell.{keeps_unless, keeps_or_refused, keeps_barred}
use Rattle.nv_model.proofs.Making.{by_kinds}
use Rattle.nv_editor.specs.Uis.{has_ui, ui_fits}
use Rattle.nv_api_buf.specs.Rows.{buffer_row, buffer_effects}
use Rattle.nv_api_buf.proofs.RowsMake.{buffer_makes}
use Rattle.nv_api_mark.specs.Rows.{mark_row, mark_effects}
use Rattle.nv_api_mark.proofs.RowsMake.{mark_makes}
use Rattle.nv_api_win.specs.WindowRows.{window_row, window_effects}
use Rattle.nv_api_win.proofs.RowsMake.{window_makes}
use Rattle.nv_api_ui.specs.UiOptions.{ui_keys, attached_ui, ui_option_fault, with_ui_option}
use Rattle.nv_api_ui.specs.UiRows.{with_ui_height, sized_ui, ui_of, uis_are_full, ui_or_new, attaching_answer, resizing_answer, setting_answer, nvim_ui_attach, nvim_ui_try_resize, nvim_ui_set_option, ui_row, ui_effects}
use Rattle.nv_api_ui.proofs.RowsMake.{ui_makes}
use Rattle.nv_dispatch.specs.Calls.{CallOutcome, Batch, passed_over, row_of, editor_after, outcome_of_answer, arguments_for, answer_to_args, answer_by_row, outcome_of_found, outcome_of_name, outcome_of_value, batch_from_result, batch_of_values, atomic_outcome, atomic_name, nvim_call_atomic, outcome_before_seal, seal_operations, outcome_with_seal, outcome_of_call}
use Rattle.nv_dispatch.proofs.RowsMake.{passed_over_makes}
use Rattle.nv_history.specs.Asking.{call_if, calls_in, calls_of}
use Rattle.nv_history.specs.Events.{Event, open_session, request_of, take_of, close_of, Entry, Cause, closed_at}
use Rattle.nv_history.specs.Sessions.{Session, fresh_session, session_closed_by, shown_after, session_emptied}
use Rattle.nv_history.specs.Worlds.{World, fresh_world, session_of, with_session_at, sessions_losing_uis, world_without_uis, world_at_end, settled_editor, after_entry, after_settled_entry, outcome_of_frame, world_after_call, is_scene_due, is_nothing_due, editor_due, empty_take_outcome, some_take_outcome, take_outcome, step, world_made}
use Rattle.nv_history.specs.Runs.{TakenBatch, run_from, run, rest_in, batch_if, batch_of, given, out_from, out}
use Rattle.nv_history.proofs.CalmRows.{option_of, found_session}
use Rattle.nv_history.proofs.LiveUis.{settled_uis}
use Rattle.nv_history.proofs.Makings.{Makes, step_makes}
use Rattle.nv_history.proofs.Staging.{same_editor, world_then}
use Rattle.nv_mirror_laws.proofs.Bounds.{IsBare}

pub both_all : {A : Type 0} (P : A → Type 0) (xs ys : List A) → AllByRecursion P xs → AllByRecursion P ys → AllByRecursion P (xs ++ ys)
both_all P [] ys h k = k
both_all P (x ∷ xs) ys h k = (h.0, both_all P xs ys h.1 k)

pub parts_all : {A : Type 0} (P : A → Type 0) (xs ys : List A) → AllByRecursion P (xs ++ ys) → AllByRecursion P xs × AllByRecursion P ys
parts_all P [] ys h = (tt, h)
parts_all P (x ∷ xs) ys h = let more = parts_all P xs ys h.1 in ((h.0, more.0), more.1)

pub neither : (a b : Bool) → (a || b) ≡ false → (a ≡ false) × (b ≡ false)
neither true b e = absurd (false≢true (sym e))
neither false b e = (refl, e)

none_of : (a b : Bool) → a ≡ false → b ≡ false → (a || b) ≡ false
none_of true b e f = absurd (false≢true (sym e))
none_of false b e f = f

-- ---- operations that put no UI of a session
abbrev pub SparesUi : ℕ → Operation → Type 0
SparesUi s (ui_put ui) = (ui.session == s) ≡ false
SparesUi s _ = Unit {0}

abbrev pub AllSpareUi : ℕ → List Operation → Type 0
AllSpareUi s operations = AllByRecursion (SparesUi s) operations

abbrev pub LacksUi : ℕ → ModelEditor → Type 0
LacksUi s m = has_ui s m.stage.uis ≡ false

among_step : (s : ℕ) (ui u : SessionUi) (us : List SessionUi) (here before : Bool) → (ui.session == s) ≡ false → (u.session == s) ≡ false → has_ui s us ≡ false
    → has_ui s (ui_among ui us) ≡ false → has_ui s (cond here (ui ∷ us) (cond before (ui ∷ u ∷ us) (u ∷ ui_among ui us))) ≡ false
among_step s ui u us true before p q r more = none_of (ui.session == s) (has_ui s us) p r
among_step s ui u us false true p q r more = none_of (ui.session == s) (has_ui s (u ∷ us)) p (none_of (u.session == s) (has_ui s us) q r)
among_step s ui u us false false p q r more = none_of (u.session == s) (has_ui s (ui_among ui us)) q more

lacks_among : (s : ℕ) (ui : SessionUi) (us : List SessionUi) → (ui.session == s) ≡ false → has_ui s us ≡ false → has_ui s (ui_among ui us) ≡ false
lacks_among s ui [] p h = none_of (ui.session == s) false p refl
lacks_among s ui (u ∷ us) p h =
    let parts = neither (u.session == s) (has_ui s us) h in
    among_step s ui u us (ui.session == u.session) (nat_lt ui.session u.session) p parts.0 parts.1 (lacks_among s ui us p parts.1)

other_step : (s : ℕ) (ss : List ℕ) (u : SessionUi) (us : List SessionUi) (goes : Bool) → (u.session == s) ≡ false → has_ui s (other_uis ss us) ≡ false
    → has_ui s (cond (not goes) (u ∷ other_uis ss us) (other_uis ss us)) ≡ false
other_step s ss u us true p more = more
other_step s ss u us false p more = none_of (u.session == s) (has_ui s (other_uis ss us)) p more

lacks_others : (s : ℕ) (ss : List ℕ) (us : List SessionUi) → has_ui s us ≡ false → has_ui s (other_uis ss us) ≡ false
lacks_others s ss [] h = refl
lacks_others s ss (u ∷ us) h =
    let parts = neither (u.session == s) (has_ui s us) h in
    other_step s ss u us (list_any (λ t. t == u.session) ss) parts.0 (lacks_others s ss us parts.1)

uis_with : (us : List SessionUi) (stage : Stage) → (with_uis us stage).uis ≡ us
uis_with [] stage = refl
uis_with (u ∷ us) stage = refl

uis_spliced : (n : ℤ) (p : Splice) (o : Option ModelBuffer) (stage : Stage) → (stage_spliced n p o stage).uis ≡ stage.uis
uis_spliced n p None stage = refl
uis_spliced n p (Some b) stage = refl

lacks_after : (s : ℕ) (c : Operation) (m : ModelEditor) → SparesUi s c → LacksUi s m → LacksUi s (after_operation c m)
lacks_after s (spliced n p) m spares h = subst (λ (us : List SessionUi). has_ui s us ≡ false) (sym (uis_spliced n p (at_handle m.buffers n) m.stage)) h
lacks_after s (spliced_back n p) m spares h = subst (λ (us : List SessionUi). has_ui s us ≡ false) (sym (uis_spliced n p (at_handle m.buffers n) m.stage)) h
lacks_after s (ui_put ui) m spares h =
    subst (λ (us : List SessionUi). has_ui s us ≡ false) (sym (uis_with (ui_among ui m.stage.uis) m.stage)) (lacks_among s ui m.stage.uis spares h)
lacks_after s (uis_dropped ss) m spares h =
    subst (λ (us : List SessionUi). has_ui s us ≡ false) (sym (uis_with (other_uis ss m.stage.uis) m.stage)) (lacks_others s ss m.stage.uis h)
lacks_after s c m spares h = h

lacks_all : (s : ℕ) (cs : List Operation) (m : ModelEditor) → AllSpareUi s cs → LacksUi s m → LacksUi s (after_operations cs m)
lacks_all s [] m spare h = h
lacks_all s (c ∷ cs) m spare h = lacks_all s cs (after_operation c m) spare.1 (lacks_after s c m spare.0 h)

-- ---- rows, called by another session
unfoldable pub AnswerSpares : ℕ → Answer → Type 0
AnswerSpares s (refused fault) = Unit {0}
AnswerSpares s (replied t operations facts) = AllSpareUi s operations

abbrev pub RowSpares : ℕ → Row → Type 0
RowSpares s row = (x : Seen) (session : ℕ) → (session == s) ≡ false → (args : List Arg) → AnswerSpares s (row x session args)

spared_fault : (s : ℕ) (f : ApiFault) → AnswerSpares s (refused f)
unfolding AnswerSpares
spared_fault s f = tt

spared_put : (s session : ℕ) (ui : SessionUi) → (session == s) ≡ false → ui.session ≡ session → AnswerSpares s (replied nil (ui_put ui ∷ []) [])
unfolding AnswerSpares
spared_put s session ui other is = (ap (λ (n : ℕ). n == s) is ∙ other, tt)

-- those whose kinds of operations put none
abbrev puts_no_ui : OperationKind → Bool
puts_no_ui puts_uis = false
puts_no_ui _ = true

spared_kind : (s : ℕ) (c : Operation) → puts_no_ui (kind_of_operation c) ≡ true → SparesUi s c
spared_kind s (ui_put ui) e = absurd (false≢true e)
spared_kind s c e = tt

spared_made : (s : ℕ) (e : Effects) → list_all puts_no_ui e.makes ≡ true → (a : Answer) → MakesOnly e a → AnswerSpares s a
unfolding AnswerSpares MakesOnly
spared_made s e all (refused f) h = tt
spared_made s e all (replied t operations facts) h = by_kinds kind_of_operation puts_no_ui (SparesUi s) (spared_kind s) e.makes all operations h.0

by_effects : (s : ℕ) (e : Effects) (row : Row) → list_all puts_no_ui e.makes ≡ true → HasEffects e row → RowSpares s row
by_effects s e row all h = λ x session other args. spared_made s e all (row x session args) (h x session args)

buffers_put_none : (method : BufferMethod) → list_all puts_no_ui (buffer_effects method).makes ≡ true
buffers_put_none CreateBuf = refl
buffers_put_none method = refl

marks_put_none : (method : MarkMethod) → list_all puts_no_ui (mark_effects method).makes ≡ true
marks_put_none CreateNamespace = refl
marks_put_none method = refl

windows_put_none : (method : WindowMethod) → list_all puts_no_ui (window_effects method).makes ≡ true
windows_put_none ListWins = refl
windows_put_none method = refl

-- a UI with another size is that of the same session
high_session : (ui found : SessionUi) (height : Option ℕ) → option_map (λ (n : ℕ). record ui { height = n }) height ≡ Some found → found.session ≡ ui.session
high_session ui found None e = absurd (none-some found e)
high_session ui found (Some n) e = ap (λ (u : SessionUi). u.session) (sym (same_Some (record ui { height = n }) found e))

wide_session : (args : List Arg) (ui found : SessionUi) (width : Option ℕ) → option_and_then (with_ui_height args) (option_map (λ (n : ℕ). record ui { width = n }) width) ≡ Some found
    → found.session ≡ ui.session
wide_session args ui found None e = absurd (none-some found e)
wide_session args ui found (Some n) e = high_session (record ui { width = n }) found (number_between 1 1000 (number_at args 1)) e

sized_session : (args : List Arg) (ui found : SessionUi) → sized_ui args ui ≡ Some found → found.session ≡ ui.session
sized_session args ui found e = wide_session args ui found (number_between 1 2000 (number_at args 0)) e

attach_spares : (s : ℕ) → RowSpares s nvim_ui_attach
attach_spares s x session other args =
    let barred : Option ApiFault = map_fault ui_keys (last_pairs (pairs_at args 2)) in
    let ui : SessionUi = attached_ui session (last_pairs (pairs_at args 2)) in
    keeps_barred (AnswerSpares s) (spared_fault s) barred (or_refused (sized_ui args ui) out_of_bounds (attaching_answer x.stage))
    (keeps_or_refused (AnswerSpares s) (spared_fault s) (sized_ui args ui) out_of_bounds (attaching_answer x.stage) (λ found is.
    keeps_unless (AnswerSpares s) (spared_fault s)
    ((not (ui_fits found x.stage), no_room) ∷ (uis_are_full found.session x.stage, limit_reached) ∷ (has_ui found.session x.stage.uis, already_attached) ∷ [])
    (replied nil (ui_put found ∷ []) []) (spared_put s session found other (sized_session args ui found is))))

new_session : (session : ℕ) (us : List SessionUi) (o : Option SessionUi) → ui_of session us ≡ o → (ui_or_new session us).session ≡ session
new_session session us None e = ap (λ (o : Option SessionUi). (unwrap_or o (attached_ui session [])).session) e
new_session session us (Some old) e = ap (λ (o : Option SessionUi). (unwrap_or o (attached_ui session [])).session) e ∙ found_session session us old e

resize_spares : (s : ℕ) → RowSpares s nvim_ui_try_resize
resize_spares s x session other args =
    let ui : SessionUi = ui_or_new session x.stage.uis in
    keeps_or_refused (AnswerSpares s) (spared_fault s) (sized_ui args ui) out_of_bounds (resizing_answer x.stage) (λ found is.
    keeps_unless (AnswerSpares s) (spared_fault s) ((not (ui_fits found x.stage), no_room) ∷ (not (has_ui found.session x.stage.uis), not_attached) ∷ [])
    (replied nil (ui_put found ∷ []) [])
    (spared_put s session found other (sized_session args ui found is ∙ new_session session x.stage.uis (ui_of session x.stage.uis) refl)))

option_spares : (s : ℕ) → RowSpares s nvim_ui_set_option
option_spares s x session other args =
    let name : List ℕ = string_at args 0 in
    let value : Tree = object_at args 1 in
    keeps_barred (AnswerSpares s) (spared_fault s) (ui_option_fault name value) (setting_answer x.stage session name value)
    (keeps_or_refused (AnswerSpares s) (spared_fault s) (ui_of session x.stage.uis) not_attached (λ ui. replied nil (ui_put (with_ui_option name value ui) ∷ []) [])
    (λ old is. spared_put s session (with_ui_option name value old) other ((option_of name value old).session ∙ found_session session x.stage.uis old is)))

uis_spare : (s : ℕ) (method : UiMethod) → RowSpares s (ui_row method)
uis_spare s UiAttach = attach_spares s
uis_spare s UiTryResize = resize_spares s
uis_spare s UiSetOption = option_spares s
uis_spare s method = by_effects s (ui_effects method) (ui_row method) refl (ui_makes method)

rows_spare : (s : ℕ) (method : Method) → IfSome (row_of method) (RowSpares s)
unfolding row_of
rows_spare s Atomic = tt
rows_spare s PassedOver = by_effects s no_effects passed_over refl passed_over_makes
rows_spare s (Buffer method) = by_effects s (buffer_effects method) (buffer_row method) (buffers_put_none method) (buffer_makes method)
rows_spare s (Mark method) = by_effects s (mark_effects method) (mark_row method) (marks_put_none method) (mark_makes method)
rows_spare s (Window method) = by_effects s (window_effects method) (window_row method) (windows_put_none method) (window_makes method)
rows_spare s (Ui method) = uis_spare s method

-- ---- calls of another session
abbrev pub OutcomeSpares : ℕ → CallOutcome → Type 0
OutcomeSpares s o = AllSpareUi s o.operations

pub seals_spare : (s : ℕ) (handles : List ℤ) → AllSpareUi s (map sealed_in handles)
seals_spare s [] = tt
seals_spare s (n ∷ ns) = (tt, seals_spare s ns)

module _ (s session : ℕ) (other : (session == s) ≡ false) where
  answer_spares : (is_seen : Bool) (a : Answer) → AnswerSpares s a → OutcomeSpares s (outcome_of_answer is_seen a)
  unfolding AnswerSpares
  answer_spares is_seen (refused f) h = tt
  answer_spares is_seen (replied t operations facts) h = h

  args_spare : (x : Seen) (row : Row) (is_seen : Bool) (args : Result (List Arg) ApiFault) → RowSpares s row → OutcomeSpares s (outcome_of_answer is_seen (answer_to_args x session row args))
  args_spare x row is_seen (Ok args) h = answer_spares is_seen (row x session args) (h x session other args)
  args_spare x row is_seen (Err f) h = tt

  row_spares : (x : Seen) (signature : Signature) (given : List Tree) (row : Option Row) → IfSome row (RowSpares s)
      → OutcomeSpares s (outcome_of_answer signature.is_seen (answer_by_row x session signature given row))
  row_spares x signature given (Some row) h = args_spare x row signature.is_seen (arguments_for signature.method signature given) h
  row_spares x signature given None h = tt

  found_spares : (m : ModelEditor) (name : List ℕ) (given : List Tree) (found : Option Signature) → OutcomeSpares s (outcome_of_found m session name found given)
  found_spares m name given (Some signature) = row_spares (seen_of m) signature given (row_of signature.method) (rows_spare s signature.method)
  found_spares m name given None = tt

  then_spares : (number : ℕ) (m : ModelEditor) (o : CallOutcome) (next : ModelEditor → Batch) (r : Result Tree ApiFault) → OutcomeSpares s o
      → ((after : ModelEditor) → AllSpareUi s (next after).operations) → AllSpareUi s (batch_from_result number m o next r).operations
  then_spares number m o next (Ok t) first more = both_all (SparesUi s) o.operations (next (editor_after m o)).operations first (more (editor_after m o))
  then_spares number m o next (Err f) first more = tt

  values_spare : (number : ℕ) (m : ModelEditor) (values : List Tree) → AllSpareUi s (batch_of_values number m session values).operations
  values_spare number m [] = tt
  values_spare number m (v ∷ vs) =
      then_spares number m (outcome_of_value m session v) (λ after. batch_of_values (suc number) after session vs) (outcome_of_value m session v).result
      (found_spares m (name_of_call v) (arguments_of_call v) (method_named (name_of_call v)))
      (λ after. values_spare (suc number) after vs)

  read_spares : (m : ModelEditor) (args : Result (List Arg) ApiFault) → OutcomeSpares s (atomic_outcome m session args)
  read_spares m (Ok args) = values_spare 0 m (tree_list (values_at args 0))
  read_spares m (Err f) = tt

  atomic_spares : (m : ModelEditor) (given : List Tree) (found : Option Signature) → OutcomeSpares s (nvim_call_atomic m session given found)
  atomic_spares m given (Some method) = read_spares m (read method given)
  atomic_spares m given None = tt

  either_spares : (b : Bool) (x y : CallOutcome) → OutcomeSpares s x → OutcomeSpares s y → OutcomeSpares s (cond b x y)
  either_spares true x y p q = p
  either_spares false x y p q = q

  sealed_spares : (m : ModelEditor) (o : CallOutcome) (r : Result Tree ApiFault) → OutcomeSpares s o → OutcomeSpares s (outcome_with_seal m o r)
  sealed_spares m o (Ok t) h =
      both_all (SparesUi s) o.operations (seal_operations (editor_after m o)) h (seals_spare s (handles_of (editor_after m o).buffers))
  sealed_spares m o (Err f) h = h

  call_spares : (m : ModelEditor) (name : List ℕ) (given : List Tree) → OutcomeSpares s (outcome_of_call m session name given)
  call_spares m name given =
      sealed_spares m (outcome_before_seal m session name given) (outcome_before_seal m session name given).result
      (either_spares (bytes_eq name atomic_name) (nvim_call_atomic m session given (method_named name)) (outcome_of_name m session name given)
      (atomic_spares m given (method_named name)) (found_spares m name given (method_named name)))

  frame_spares : (m : ModelEditor) (call : Call) → OutcomeSpares s (outcome_of_frame m session call)
  frame_spares m (request msgid name args) = call_spares m name (tree_list args)
  frame_spares m (notice name args) = call_spares m name (tree_list args)

-- ---- a world, where each call of the session puts none
abbrev pub CallSpares : ℕ → Call → Type 0
CallSpares s call = (m : ModelEditor) → OutcomeSpares s (outcome_of_frame m s call)

called_spares : (s t : ℕ) (call : Call) (m : ModelEditor) (b : Bool) → (t == s) ≡ b → AllByRecursion (CallSpares s) (call_if b call) → OutcomeSpares s (outcome_of_frame m t call)
called_spares s t call m true e h =
    let same : s ≡ t = grind (arith, nat_tests) in
    subst (λ (n : ℕ). OutcomeSpares s (outcome_of_frame m n call)) same (h.0 m)
called_spares s t call m false e h = frame_spares s t e m call

without_lacks : (s : ℕ) (is_seen : Bool) (ss : List ℕ) (w : World) → LacksUi s w.editor → LacksUi s (world_without_uis is_seen ss w).editor
without_lacks s true [] w h = h
without_lacks s false [] w h = h
without_lacks s is_seen (t ∷ ts) w h = lacks_after s (uis_dropped (t ∷ ts)) w.editor tt h

entry_lacks : (s : ℕ) (is_seen : Bool) (w : World) → LacksUi s w.editor → LacksUi s (world_at_end is_seen w).editor
entry_lacks s is_seen w h =
    without_lacks s is_seen (sessions_losing_uis (world_then w)) (world_then w)
    (subst (λ (m : ModelEditor). LacksUi s m) (sym (same_editor w (w.entries + 1 == w.limits.entries))) h)

settled_lacks : (s : ℕ) (m : ModelEditor) → LacksUi s m → LacksUi s (settled_editor m)
settled_lacks s m h = subst (λ (us : List SessionUi). has_ui s us ≡ false) (sym (settled_uis m)) h

pub same_editor_at : (w : World) (t : ℕ) (x : Session) → (with_session_at w t x).editor ≡ w.editor
same_editor_at w zero x = refl
same_editor_at w (suc place) x = refl

lacks_at : (s : ℕ) (w : World) (t : ℕ) (x : Session) → LacksUi s w.editor → LacksUi s (with_session_at w t x).editor
lacks_at s w t x h = subst (λ (m : ModelEditor). LacksUi s m) (sym (same_editor_at w t x)) h

by_entry : (s : ℕ) (u v : World) → v ≡ after_entry u → LacksUi s u.editor → LacksUi s v.editor
by_entry s u v e h = subst (λ (x : World). LacksUi s x.editor) (sym e) (entry_lacks s false u h)

by_settled_entry : (s : ℕ) (is_seen : Bool) (u v : World) → v ≡ after_settled_entry is_seen u → LacksUi s u.editor → LacksUi s v.editor
by_settled_entry s is_seen u v e h =
    subst (λ (x : World). LacksUi s x.editor) (sym e) (settled_lacks s (world_at_end is_seen u).editor (entry_lacks s is_seen u h))

makes_lacks : (s : ℕ) (w v : World) (event : Event) → AllByRecursion (CallSpares s) (calls_in s event) → LacksUi s w.editor → Makes w event v → LacksUi s v.editor
makes_lacks s w v open_session calls h made = by_entry s (record w { sessions = w.sessions ++ fresh_session ∷ [] }) v made h
makes_lacks s w v (request_of t call) calls h made =
    let o = outcome_of_frame w.editor t call in
    by_settled_entry s o.is_seen (world_after_call w t call o) v made.made (lacks_all s o.operations w.editor (called_spares s t call w.editor (t == s) refl calls) h)
makes_lacks s w v (take_of t) calls h made =
    let y = session_emptied (shown_after (is_scene_due w t made.session) w.stamp made.session.shown) made.session in
    by_entry s (with_session_at w t y) v made.made (lacks_at s w t y h)
makes_lacks s w v (close_of t) calls h made =
    let y = session_closed_by (closed_at w.entries) made.session in
    by_settled_entry s false (with_session_at w t y) v made.made (lacks_at s w t y h)

-- ---- what its takes give
no_scene : (s : ℕ) (w : World) (x : Session) → LacksUi s w.editor → is_scene_due w s x ≡ false
no_scene s w x h = ap (λ (b : Bool). b && not (x.shown == w.stamp)) h

bare_cause : (c : Option Cause) → AllByRecursion IsBare (batch_of (empty_take_outcome c))
bare_cause None = tt
bare_cause (Some cause) = tt

bare_some : (w : World) (s : ℕ) (x : Session) (none scene : Bool) → scene ≡ false → AllByRecursion IsBare (batch_of (some_take_outcome none scene w s x))
bare_some w s x true scene e = bare_cause x.closed
bare_some w s x false scene e = (ap (λ (b : Bool). editor_due b w.editor) e, tt)

bare_take : (w : World) (s : ℕ) (o : Option Session) → LacksUi s w.editor → AllByRecursion IsBare (batch_of (take_outcome o w s))
bare_take w s None h = tt
bare_take w s (Some x) h = bare_some w s x (is_nothing_due x.waiting (is_scene_due w s x)) (is_scene_due w s x) (no_scene s w x h)

bare_if : (b : Bool) (batches : List TakenBatch) → (b ≡ true → AllByRecursion IsBare batches) → AllByRecursion IsBare (batch_if b batches)
bare_if true batches h = h refl
bare_if false batches h = tt

bare_given : (s : ℕ) (w : World) (event : Event) → LacksUi s w.editor → AllByRecursion IsBare (given s event (step w event))
bare_given s w open_session h = tt
bare_given s w (request_of t call) h = tt
bare_given s w (take_of t) h =
    bare_if (t == s) (batch_of (take_outcome (session_of w t) w t)) (λ e.
    let same : s ≡ t = grind (arith, nat_tests) in
    subst (λ (n : ℕ). AllByRecursion IsBare (batch_of (take_outcome (session_of w n) w n))) same (bare_take w s (session_of w s) h))
bare_given s w (close_of t) h = tt

bare_next : (s : ℕ) (v : World) (es : List Entry) (gave : List TakenBatch) (made : Option World) → AllByRecursion IsBare gave
    → ((u : World) → made ≡ Some u → run_from u es ≡ Some v → AllByRecursion IsBare (out_from u s es))
    → option_and_then (λ u. run_from u es) made ≡ Some v → AllByRecursion IsBare (gave ++ rest_in (λ u. out_from u s es) made)
bare_next s v es gave None first rest e = absurd (none-some v e)
bare_next s v es gave (Some u) first rest e = both_all IsBare gave (out_from u s es) first (rest u refl e)

run_bare : (s : ℕ) (w v : World) (es : List Entry) → AllByRecursion (CallSpares s) (calls_of s es) → LacksUi s w.editor → run_from w es ≡ Some v → AllByRecursion IsBare (out_from w s es)
run_bare s w v [] q h e = tt
run_bare s w v (x ∷ es) q h e =
    let calls = parts_all (CallSpares s) (calls_in s x.event) (calls_of s es) q in
    bare_next s v es (given s x.event (step w x.event)) (world_made (step w x.event)) (bare_given s w x.event h)
    (λ u f g. run_bare s u v es calls.1 (makes_lacks s w u x.event calls.0 h (step_makes w u x.event f)) g) e

pub bare_out : (capacity : ℕ) (limits : Limits) (history : List Entry) (w : World) (s : ℕ) → run capacity limits history ≡ Some w → AllByRecursion (CallSpares s) (calls_of s history)
    → AllByRecursion IsBare (out capacity limits s history)
bare_out capacity limits history w s runs q = run_bare s (fresh_world capacity limits) w history q refl runs
