-- The row and the column of a cursor's argument, and the place that they name.
use Rattle.std.proofs.Common.{◌≡◌, ◌∙◌, refl, sym, ap, subst, ℕ, ℤ, List, [], ◌∷◌, map, length, Option, Some, None}
use Rattle.std.specs.Prelude.{slice_get, option_map, option_and_then, Result, Ok, Err, ◌≢◌}
use Rattle.std.specs.Result.{IsErrAnd}
use Rattle.nv_value.specs.Content.{nil}
use Rattle.nv_value.specs.View.{content, contents}
use Rattle.nv_value.specs.declared.value.Value.{Value}
use Rattle.nv_args.specs.Arguments.{tree_list}
use Rattle.nv_args.specs.Reading.{Arg, values_at}
use Rattle.nv_args.proofs.KindLemmas.{tree_list-contents}
use Rattle.nv_args.specs.Faults.{no_buffer, no_window, out_of_bounds}
use Rattle.nv_args.specs.Reading.{number_at}
use Rattle.nv_args.specs.declared.faults.Fail.{Fail}
use Rattle.nv_value.specs.declared.fault.ApiFault.{ApiFault}
use Rattle.nv_places.specs.Flat.{line_at}
use Rattle.nv_places.specs.declared.place.Pos.{Pos}
use Rattle.nv_buffer.specs.Content.{Content}
use Rattle.nv_windows.specs.Workspace.{current_buffer, window_at}
use Rattle.nv_windows.specs.declared.window.Window.{Window}
use Rattle.nv_model.specs.Stage.{or_current}
use Rattle.nv_model.specs.Editors.{at_handle}
use Rattle.nv_model.specs.Operations.{cursor_put}
use Rattle.nv_model.specs.Answers.{Answer, Fact, replied, or_refused}
use Rattle.nv_model.specs.Seen.{SeenBuffer}
use Rattle.nv_model.specs.Standing.{PresentEditor, seen_now, seen_buffer_now}
use Rattle.nv_editor.specs.Doing.{Does, GivesAnswer}
use Rattle.nv_editor.specs.Sound.{IsSoundEditor, content_at, content_of}
use Rattle.nv_api_win.specs.WindowRows.{column_in, coordinate, integer_or_zero, nvim_win_set_cursor, row_from_one}
use Rattle.nv_api_win.specs.inside.Finding.{LooksUp, window_of_call, col_of_row, cursor_place}
use Rattle.nv_api_win.proofs.Giving.{gives_missing, gives_found, gives_done}
use Rattle.nv_api_win.proofs.LiveThings.{shows_live, shows_named}

pub coordinate_is : (args : List Arg) (vs : List Value) (place : ℕ) → contents vs ≡ values_at args 1
    → integer_or_zero (slice_get (map content vs) place) ≡ coordinate args place
coordinate_is args vs place e = ap (λ ts. integer_or_zero (slice_get ts place)) (sym (tree_list-contents vs) ∙ ap tree_list e)

-- a cursor is put at a place, where there is one
abbrev pub after_place : ℤ → Option Pos → Answer
after_place w o = or_refused o out_of_bounds (λ p. replied nil (cursor_put w p ∷ []) [])

-- the row of a text, and then its column
abbrev placing : List (List ℕ) → ℤ → ℤ → ℤ → Answer
placing lines w row col =
    or_refused (row_from_one row (length lines)) out_of_bounds (λ r.
    or_refused (column_in col (length (line_at lines r))) out_of_bounds (λ k.
    replied nil (cursor_put w (record { row = r; col = k }) ∷ []) []))

col_placed : (w : ℤ) (r : ℕ) (o : Option ℕ)
    → or_refused o out_of_bounds (λ k. replied nil (cursor_put w (record { row = r; col = k }) ∷ []) [])
    ≡ after_place w (option_map (λ k. record { row = r; col = k }) o)
col_placed w r None = refl
col_placed w r (Some k) = refl

row_placed : (lines : List (List ℕ)) (w col : ℤ) (o : Option ℕ)
    → or_refused o out_of_bounds (λ r.
    or_refused (column_in col (length (line_at lines r))) out_of_bounds (λ k.
    replied nil (cursor_put w (record { row = r; col = k }) ∷ []) []))
    ≡ after_place w (option_and_then (col_of_row lines col) o)
row_placed lines w col None = refl
row_placed lines w col (Some r) = col_placed w r (column_in col (length (line_at lines r)))

content_there : (o : Option Content) (n : ℤ) (fault : ApiFault) (next : SeenBuffer → Answer) → o ≢ None
    → or_refused (option_map seen_buffer_now o) fault next ≡ next (seen_buffer_now (content_of n o))
content_there None n fault next some = absurd (some refl)
content_there (Some b) n fault next some = refl

-- the row of a call that puts the cursor of a window that it names
pub cursor_row : (e : PresentEditor) (session : ℕ) (args : List Arg) (w : Window) → IsSoundEditor e → window_of_call e.stage.workspace args ≡ Some w
    → window_at e.stage.workspace w.handle ≡ Some w
    → nvim_win_set_cursor (seen_now e) session args
    ≡ after_place w.handle (cursor_place (content_at e w.buffer).text (coordinate args 0) (coordinate args 1))
cursor_row e session args w sound found live =
    ap (λ (o : Option Window). or_refused o (no_window (number_at args 0)) (λ v.
    or_refused ((seen_now e).buffer (or_current (current_buffer e.stage.workspace) v.buffer)) (no_buffer v.buffer) (λ b. placing b.lines v.handle (coordinate args 0) (coordinate args 1)))) found
    ∙ ap (λ (n : ℤ). or_refused ((seen_now e).buffer n) (no_buffer w.buffer) (λ b. placing b.lines w.handle (coordinate args 0) (coordinate args 1)))
    (shows_named e w.handle (current_buffer e.stage.workspace) w sound live)
    ∙ content_there (at_handle e.buffers w.buffer) w.buffer (no_buffer w.buffer) (λ b. placing b.lines w.handle (coordinate args 0) (coordinate args 1)) (shows_live e w.handle w sound live)
    ∙ row_placed (content_at e w.buffer).text w.handle (coordinate args 1) (row_from_one (coordinate args 0) (length (content_at e w.buffer).text))

-- what is passed on where there is no such place, and what is done where there is one
pub gives_no_place : (answer : Answer) (w : ℤ) (o : Option Pos) (fail : Fail) (result : Result Value Fail) (e : PresentEditor) (told : List Fact) → answer ≡ after_place w o
    → LooksUp (λ p. p) o out_of_bounds (Err fail) → IsErrAnd result (λ y. y ≡ fail) → GivesAnswer answer result e e told told
gives_no_place answer w o fail (Ok value) e told row h is = absurd is
gives_no_place answer w o fail (Err given) e told row h is =
    subst (λ (a : Answer). GivesAnswer a (Err given) e e told told) (sym row)
    (subst (λ (f : Fail). GivesAnswer (after_place w o) (Err f) e e told told) (sym is)
    (gives_missing (λ (p : Pos). p) o out_of_bounds (λ p. replied nil (cursor_put w p ∷ []) []) fail e told h))

pub gives_place : (answer : Answer) (w : ℤ) (o : Option Pos) (p : Pos) (value : Value) (before after : PresentEditor) (told : List Fact) → answer ≡ after_place w o → o ≡ Some p
    → content value ≡ nil → Does (cursor_put w p ∷ []) before after → GivesAnswer answer (Ok value) before after told told
gives_place answer w o p value before after told row found is done =
    subst (λ (a : Answer). GivesAnswer a (Ok value) before after told told) (sym row)
    (gives_found o p out_of_bounds (λ q. replied nil (cursor_put w q ∷ []) []) (Ok value) before after told told found
    (gives_done nil (cursor_put w p ∷ []) value before after told is done))
