use Rattle.std.proofs.Common.{◌≡◌, ℤ, Bool, true, false, not, List, [], ◌∷◌, ap, subst, ◌∙◌, refl, rules, w64, FitsSigned, to_z, of_z, Some, None}
use Rattle.std.proofs.lemmas.Result.{err_from_is_err_and}
use Rattle.std.proofs.lemmas.Int.{to_z-of_z}
use Rattle.nv_value.specs.Content.{nil}
use Rattle.nv_model.specs.Answers.{Answer, replied}
use Rattle.nv_editor.specs.Doing.{Does}
use Rattle.nv_api_buf.proofs.Deciding.{gives_refused, gives_quiet}
use Rattle.std.proofs.Common.{◌||◌, cond}
use Rattle.nv_windows.specs.Rooms.{has_handles_left}
use Rattle.nv_model.specs.Deleting.{no_buffer_left}
use Rattle.nv_model.specs.Operations.{Operation, buffer_made, tab_made, after_operation}
use Rattle.nv_model.specs.Stage.{Stage}
use Rattle.nv_model.specs.Standing.{PresentEditor}
use Rattle.nv_api_buf.proofs.commands.make_tab.Goals as goal

-- operations one after another
does_then : (a : Operation) (bs : List Operation) (e mid later : PresentEditor) → Does (a ∷ []) e mid → Does bs mid later → Does (a ∷ bs) e later
does_then a bs e mid later first then m stands = then (after_operation a m) (first m stands)

parts : (a b : Bool) → (a || not b) ≡ false → (a ≡ false) × (b ≡ true)
parts false true e = (refl, refl)
parts false false e = absurd (cc)
parts true b e = absurd (cc)

abbrev made_tab : PresentEditor → Answer
made_tab e = replied nil (buffer_made true ∷ tab_made e.stage.next_buffer ∷ []) []

pub returns-in_err-may_make_tab-clause-row : goal.returns-in_err-may_make_tab-clause-row
returns-in_err-may_make_tab-clause-row c =
    let e = c.args.editor.now in
    let p = err_from_is_err_and c.from_residual.result c.from_residual.ensures.1 in
    rw (p.1, p.2) (gives_refused _ _ c.in_err-may_make_tab.field-0.0 e c.args.happened.now refl (c.in_err-may_make_tab.ensures.row (made_tab e)))

pub make_buffer-requires : goal.make_buffer-requires
make_buffer-requires c =
    let e = c.args.editor.now in
    record { room = (parts (no_buffer_left e.stage) (has_handles_left e.stage.workspace) c.in_ok-may_make_tab.ensures.room).0 }

pub returns-clause-row : goal.returns-clause-row
returns-clause-row c =
    let e = c.args.editor.now in
    let mid = c.make_buffer.new.self in
    let later = c.make_tab.new.self in
    let n = c.in_ok-buffer.buffer in
    let room = parts (no_buffer_left e.stage) (has_handles_left e.stage.workspace) c.in_ok-may_make_tab.ensures.room in
    let fits : FitsSigned w64 n = search rules in
    let made : to_z w64 (of_z w64 n) ≡ e.stage.next_buffer = to_z-of_z w64 n fits ∙ c.in_ok-buffer.ensures.handle in
    let left : has_handles_left mid.stage.workspace ≡ true = ap (λ (s : Stage). has_handles_left s.workspace) c.in_ok-buffer.ensures.stage ∙ room.1 in
    let operations : cond (has_handles_left mid.stage.workspace) (tab_made (to_z w64 (of_z w64 n)) ∷ []) [] ≡ tab_made e.stage.next_buffer ∷ [] =
    λ i. cond (left i) (tab_made (made i) ∷ []) [] in
    gives_quiet _ (buffer_made true ∷ tab_made e.stage.next_buffer ∷ []) e later c.args.happened.now
    (c.in_ok-may_make_tab.ensures.row (made_tab e))
    (does_then (buffer_made true) (tab_made e.stage.next_buffer ∷ []) e mid later c.in_ok-buffer.ensures.done
    (subst (λ (os : List Operation). Does os mid later) operations c.in_ok-make_tab.ensures.done))
