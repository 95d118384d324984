use Rattle.std.proofs.Common.{◌≡◌, ℕ, ℤ, length, ap, sym, subst, refl, ◌∙◌, rules, to_z, of_z, w64, FitsSigned}
use Rattle.std.proofs.lemmas.Result.{err_from_is_err_and}
use Rattle.std.proofs.lemmas.Int.{to_z-of_z}
use Rattle.nv_value.specs.Content.{nil}
use Rattle.nv_buffer.specs.Content.{Content}
use Rattle.nv_undo.specs.Ways.{undo_legs}
use Rattle.nv_model.specs.Answers.{Answer, edits, replied, undo_operations, undo_splices}
use Rattle.nv_model.specs.Seen.{Seen, SeenBuffer, sealed_undo}
use Rattle.nv_model.specs.Standing.{seen_now, seen_buffer_now}
use Rattle.nv_editor.specs.Sound.{content_at}
use Rattle.nv_api_buf.specs.CommandRows.{legs_answer}
use Rattle.nv_api_buf.specs.inside.Orders.{unless_moved}
use Rattle.nv_api_buf.proofs.Deciding.{gives_refused, gives_done}
use Rattle.nv_api_buf.proofs.Passing.{moved_there}
use Rattle.nv_api_buf.proofs.commands.undo_current.Goals as goal

abbrev next : Seen → ℤ → SeenBuffer → Answer
next s n b = legs_answer s n b (undo_legs (sealed_undo b))

pub returns-in_err-found-clause-row : goal.returns-in_err-found-clause-row
returns-in_err-found-clause-row c =
    let p = err_from_is_err_and c.from_residual.result c.from_residual.ensures.1 in
    rw (p.1, p.2) (gives_refused _ _ c.in_err-found.field-0.0 c.args.editor.now c.args.happened.now refl (c.in_err-found.ensures.row (next (seen_now c.args.editor.now))))

pub returns-in_err-may_move-clause-row : goal.returns-in_err-may_move-clause-row
returns-in_err-may_move-clause-row c =
    let e = c.args.editor.now in
    let n = c.in_ok-found.found.live.handle in
    let b = seen_buffer_now (content_at e n) in
    let legs = undo_legs (sealed_undo b) in
    let fits : FitsSigned w64 n = search rules in
    let cost : length (undo_splices b legs) ≡ c.cost_back.result = sym (subst (λ (z : ℤ). let b = seen_buffer_now (content_at e z) in c.cost_back.result ≡ length (undo_splices b (undo_legs (sealed_undo b)))) (to_z-of_z w64 n fits) c.cost_back.ensures) in
    let answer : Answer = replied nil (undo_operations n b legs) (edits n b (undo_splices b legs)) in
    let p = err_from_is_err_and c.from_residual-in_err-may_move.result c.from_residual-in_err-may_move.ensures.1 in
    rw (p.1, p.2) (gives_refused _ _ c.in_err-may_move.field-0.0 e c.args.happened.now
    (c.in_ok-found.ensures.row (next (seen_now e))
    ∙ ap (λ (k : ℕ). unless_moved e.stage.limits b k answer) cost
    ∙ ap (λ (x : Content). unless_moved e.stage.limits (seen_buffer_now x) c.cost_back.result answer) (sym c.in_ok-found.ensures.buffer))
    (c.in_err-may_move.ensures.row answer))

pub undo-requires-clause-tick : goal.undo-requires-clause-tick
undo-requires-clause-tick c =
    let e = c.args.editor.now in
    let n = c.in_ok-found.found.live.handle in
    let fits : FitsSigned w64 n = search rules in
    let there : c.in_ok-found.found.buffer.now ≡ content_at e (to_z w64 (of_z w64 n)) =
    c.in_ok-found.ensures.buffer ∙ ap (content_at e) (sym (to_z-of_z w64 n fits)) in
    moved_there _ _ _ _ _ there c.cost_back.ensures c.in_ok-may_move.ensures.tick

pub returns-clause-row : goal.returns-clause-row
returns-clause-row c =
    let e = c.args.editor.now in
    let n = c.in_ok-found.found.live.handle in
    let b = seen_buffer_now (content_at e n) in
    let legs = undo_legs (sealed_undo b) in
    let fits : FitsSigned w64 n = search rules in
    let cost : length (undo_splices b legs) ≡ c.cost_back.result = sym (subst (λ (z : ℤ). let b = seen_buffer_now (content_at e z) in c.cost_back.result ≡ length (undo_splices b (undo_legs (sealed_undo b)))) (to_z-of_z w64 n fits) c.cost_back.ensures) in
    let answer : Answer = replied nil (undo_operations n b legs) (edits n b (undo_splices b legs)) in
    gives_done _ _ e c.undo.new.self c.args.happened.now c.undo.new.happened
    (c.in_ok-found.ensures.row (next (seen_now e))
    ∙ ap (λ (k : ℕ). unless_moved e.stage.limits b k answer) cost
    ∙ ap (λ (x : Content). unless_moved e.stage.limits (seen_buffer_now x) c.cost_back.result answer) (sym c.in_ok-found.ensures.buffer)
    ∙ c.in_ok-may_move.ensures.row answer
    ∙ (λ i. let z = sym (to_z-of_z w64 n fits) i in let b = seen_buffer_now (content_at e z) in replied nil (undo_operations z b (undo_legs (sealed_undo b))) (edits z b (undo_splices b (undo_legs (sealed_undo b))))))
    c.in_ok-undo.ensures
