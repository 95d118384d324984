-- The rows of methods that aren't seen change nothing that is shown.
use Rattle.std.proofs.Common.{◌≡◌, refl, sym, ap, ◌∙◌, arith, ℕ, Bool, true, false, ◌||◌, List, [], ◌∷◌, Option, Some}
use Rattle.std.specs.Prelude.{cond, if◌then◌else◌, bytes_eq, codes, ◌==◌, IfSome}
use Rattle.std.specs.List.{list_all}
use Rattle.std.proofs.lemmas.Option.{none-some, same_Some}
use Rattle.std.proofs.lemmas.Bool.Decides.{nat_tests}
use Rattle.nv_value.specs.Content.{Tree, nil}
use Rattle.nv_value.specs.declared.fault.ApiFault.{ApiFault}
use Rattle.nv_args.specs.Faults.{not_attached}
use Rattle.nv_args.specs.Reading.{Arg, string_at, object_at}
use Rattle.nv_args.specs.Table.{Signature, method_named, other_names, table}
use Rattle.nv_args.proofs.NameLookup.{named_passes}
use Rattle.nv_args.specs.declared.methods.Method.{Method}
use Rattle.nv_args.specs.declared.methods.Method.TheVariants.{Atomic, PassedOver, Buffer, Mark, Window, Ui}
use Rattle.nv_args.specs.declared.methods.BufferMethod.{BufferMethod}
use Rattle.nv_args.specs.declared.methods.MarkMethod.{MarkMethod}
use Rattle.nv_args.specs.declared.methods.WindowMethod.{WindowMethod}
use Rattle.nv_args.specs.declared.methods.UiMethod.{UiMethod}
use Rattle.nv_args.specs.declared.methods.BufferMethod.TheVariants.{CreateBuf}
use Rattle.nv_args.specs.declared.methods.MarkMethod.TheVariants.{CreateNamespace}
use Rattle.nv_args.specs.declared.methods.WindowMethod.TheVariants.{ListWins}
use Rattle.nv_args.specs.declared.methods.UiMethod.TheVariants.{UiSetOption}
use Rattle.nv_model.specs.Editors.{ModelEditor}
use Rattle.nv_model.specs.Seen.{seen_of}
use Rattle.nv_model.specs.Operations.{Operation, ui_put, after_operations}
use Rattle.nv_model.specs.Answers.{Answer, Fact, refused, replied, or_refused}
use Rattle.nv_model.specs.Answering.{fault_or}
use Rattle.nv_model.specs.Kinds.{Effects, no_effects, MakesOnly, HasEffects}
use Rattle.nv_model.specs.Rows.{Row}
use Rattle.nv_model.specs.declared.parts.Ui.{Ui as SessionUi}
use Rattle.nv_model.proofs.AnswersTell.{keeps_or_refused, keeps_barred}
use Rattle.nv_api_buf.specs.Rows.{buffer_row, buffer_effects}
use Rattle.nv_api_buf.proofs.RowsMake.{buffer_makes}
use Rattle.nv_api_mark.specs.Rows.{mark_row, mark_effects}
use Rattle.nv_api_mark.proofs.RowsMake.{mark_makes}
use Rattle.nv_api_win.specs.WindowRows.{window_row, window_effects}
use Rattle.nv_api_win.proofs.RowsMake.{window_makes}
use Rattle.nv_api_ui.proofs.RowsMake.{ui_makes}
use Rattle.nv_api_ui.specs.UiOptions.{ui_option_fault, with_ui_option}
use Rattle.nv_api_ui.specs.UiRows.{ui_of, setting_answer, nvim_ui_set_option, ui_row, ui_effects}
use Rattle.nv_dispatch.specs.Calls.{passed_over, row_of}
use Rattle.nv_dispatch.specs.Effects.{effects_of}
use Rattle.nv_dispatch.proofs.RowsMake.{passed_over_makes}
use Rattle.nv_history.proofs.LooksOn.{LooksOn, looks_ui_put}
use Rattle.nv_history.proofs.RowKinds.{is_calm, all_calm}
use Rattle.nv_history.proofs.UisStand.{AreStanding}

-- an answer that changes nothing that is shown
unfoldable pub IsCalm : ModelEditor → Answer → Type 0
IsCalm m (refused fault) = Unit {0}
IsCalm m (replied t operations facts) = LooksOn m (after_operations operations m)

abbrev pub CalmRow : Row → Type 0
CalmRow row = (m : ModelEditor) → AreStanding m.stage → (session : ℕ) (args : List Arg) → IsCalm m (row (seen_of m) session args)

calm_fault : (m : ModelEditor) (f : ApiFault) → IsCalm m (refused f)
unfolding IsCalm
calm_fault m f = tt

calm_done : (m : ModelEditor) (t : Tree) (operations : List Operation) (facts : List Fact) → LooksOn m (after_operations operations m) → IsCalm m (replied t operations facts)
unfolding IsCalm
calm_done m t operations facts looks = looks

calm_barred : (m : ModelEditor) (o : Option ApiFault) (a : Answer) → IsCalm m a → IsCalm m (fault_or o a)
calm_barred m o a = keeps_barred (IsCalm m) (calm_fault m) o a

calm_found : (m : ModelEditor) (A : Type 0) (o : Option A) (f : ApiFault) (next : A → Answer) → ((a : A) → o ≡ Some a → IsCalm m (next a)) → IsCalm m (or_refused o f next)
calm_found m A o f next h = keeps_or_refused (IsCalm m) (calm_fault m) o f next h

-- ---- rows whose kinds of operations change nothing that is shown
answer_calm : (e : Effects) → list_all is_calm e.makes ≡ true → (m : ModelEditor) → AreStanding m.stage → (a : Answer) → MakesOnly e a → IsCalm m a
unfolding IsCalm MakesOnly
answer_calm e all m stands (refused f) h = tt
answer_calm e all m stands (replied t operations facts) h = all_calm e operations all h.0 m stands

by_calm : (e : Effects) (row : Row) → list_all is_calm e.makes ≡ true → HasEffects e row → CalmRow row
by_calm e row all h = λ m stands session args. answer_calm e all m stands (row (seen_of m) session args) (h (seen_of m) session args)

-- the UI of a session is put with an option
pub record IsOptionOf (ui old : SessionUi) : Type 0 where
  pub session : ui.session ≡ old.session
  pub width : ui.width ≡ old.width
  pub height : ui.height ≡ old.height

option_by : (b : Bool) (rgb : Bool) (ui : SessionUi) → IsOptionOf (if b then record ui { rgb = rgb } else ui) ui
option_by true rgb ui = record { session = refl; width = refl; height = refl }
option_by false rgb ui = record { session = refl; width = refl; height = refl }

pub option_of : (name : List ℕ) (value : Tree) (ui : SessionUi) → IsOptionOf (with_ui_option name value ui) ui
option_of name value ui = option_by (bytes_eq name (codes "rgb")) _ ui

found_first : (s : ℕ) (u old : SessionUi) (rest : Option SessionUi) (b : Bool) → (u.session == s) ≡ b → cond b (Some u) rest ≡ Some old → (rest ≡ Some old → old.session ≡ s) → old.session ≡ s
found_first s u old rest true same e more =
    let here : u.session ≡ s = grind (arith, nat_tests) in ap (λ (v : SessionUi). v.session) (sym (same_Some u old e)) ∙ here
found_first s u old rest false same e more = more e

pub found_session : (s : ℕ) (us : List SessionUi) (old : SessionUi) → ui_of s us ≡ Some old → old.session ≡ s
found_session s [] old e = absurd (none-some old e)
found_session s (u ∷ us) old e = found_first s u old (ui_of s us) (u.session == s) refl e (λ f. found_session s us old f)

puts_option : (m : ModelEditor) → AreStanding m.stage → (session : ℕ) (name : List ℕ) (value : Tree) (old : SessionUi) → ui_of session m.stage.uis ≡ Some old
    → IsCalm m (replied nil (ui_put (with_ui_option name value old) ∷ []) [])
puts_option m stands session name value old is =
    let opt = option_of name value old in
    let own : (with_ui_option name value old).session ≡ session = opt.session ∙ found_session session m.stage.uis old is in
    calm_done m nil (ui_put (with_ui_option name value old) ∷ []) []
    (looks_ui_put m (with_ui_option name value old) old stands (ap (λ (s : ℕ). ui_of s m.stage.uis) own ∙ is) opt.width opt.height)

ui_set_option_calm : CalmRow nvim_ui_set_option
ui_set_option_calm m stands session args =
    let name : List ℕ = string_at args 0 in
    let value : Tree = object_at args 1 in
    calm_barred m (ui_option_fault name value) (setting_answer m.stage session name value)
    (calm_found m SessionUi (ui_of session m.stage.uis) not_attached (λ ui. replied nil (ui_put (with_ui_option name value ui) ∷ []) [])
    (λ old is. puts_option m stands session name value old is))

-- ---- all rows that change nothing that is shown
abbrev pub is_calm_method : Method → Bool
is_calm_method (Ui UiSetOption) = true
is_calm_method method = list_all is_calm (effects_of method).makes

buffers_calm : (method : BufferMethod) → is_calm_method (Buffer method) ≡ true → CalmRow (buffer_row method)
buffers_calm CreateBuf e = by_calm (buffer_effects CreateBuf) (buffer_row CreateBuf) e (buffer_makes CreateBuf)
buffers_calm method e = by_calm (buffer_effects method) (buffer_row method) e (buffer_makes method)

marks_calm : (method : MarkMethod) → is_calm_method (Mark method) ≡ true → CalmRow (mark_row method)
marks_calm CreateNamespace e = by_calm (mark_effects CreateNamespace) (mark_row CreateNamespace) e (mark_makes CreateNamespace)
marks_calm method e = by_calm (mark_effects method) (mark_row method) e (mark_makes method)

windows_calm : (method : WindowMethod) → is_calm_method (Window method) ≡ true → CalmRow (window_row method)
windows_calm ListWins e = by_calm (window_effects ListWins) (window_row ListWins) e (window_makes ListWins)
windows_calm method e = by_calm (window_effects method) (window_row method) e (window_makes method)

uis_calm : (method : UiMethod) → is_calm_method (Ui method) ≡ true → CalmRow (ui_row method)
uis_calm UiSetOption e = ui_set_option_calm
uis_calm method e = by_calm (ui_effects method) (ui_row method) e (ui_makes method)

pub rows_calm : (method : Method) → is_calm_method method ≡ true → IfSome (row_of method) CalmRow
unfolding row_of
rows_calm Atomic e = tt
rows_calm PassedOver e = by_calm no_effects passed_over refl passed_over_makes
rows_calm (Buffer method) e = buffers_calm method e
rows_calm (Mark method) e = marks_calm method e
rows_calm (Window method) e = windows_calm method e
rows_calm (Ui method) e = uis_calm method e

-- ---- a method that isn't seen is one of them
abbrev is_seen_or_calm : Signature → Bool
is_seen_or_calm s = s.is_seen || is_calm_method s.method

told_calm : list_all is_seen_or_calm table ≡ true
told_calm = refl

others_calm : list_all is_seen_or_calm other_names ≡ true
others_calm = refl

not_seen : (seen calm : Bool) → (seen || calm) ≡ true → seen ≡ false → calm ≡ true
not_seen true calm e f = absurd cc
not_seen false calm e f = e

pub unseen_calm : (name : List ℕ) (s : Signature) → method_named name ≡ Some s → s.is_seen ≡ false → is_calm_method s.method ≡ true
unseen_calm name s is unseen = not_seen s.is_seen (is_calm_method s.method) (named_passes is_seen_or_calm name s told_calm others_calm is) unseen
