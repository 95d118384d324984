use Rattle.std.proofs.Common.{◌≡◌, ℤ, refl, subst, rules, to_z, of_z, w64, FitsSigned}
use Rattle.std.proofs.lemmas.Int.{to_z-of_z}
use Rattle.nv_model.specs.Deleting.{dropping_operations, least_other}
use Rattle.nv_model.specs.Standing.{seen_now}
use Rattle.nv_editor.specs.Doing.{Does}
use Rattle.nv_api_buf.specs.inside.Deciding.{delete_answer}
use Rattle.nv_api_buf.proofs.Deciding.{gives_done}
use Rattle.nv_api_buf.proofs.buffers.delete.Goals as goal

pub returns-clause-row : goal.returns-clause-row
returns-clause-row c =
    let e = c.args.editor.now in
    let n = c.args.live.handle in
    let later = c.drop_buffer.new.self in
    let fits : FitsSigned w64 n = search rules in
    let handle : to_z w64 (of_z w64 n) ≡ n = to_z-of_z w64 n fits in
    gives_done _ (delete_answer (seen_now e) n) e later c.args.happened.now c.push.new.self refl
    (refl, subst (λ (k : ℤ). Does (dropping_operations e.stage k (least_other (seen_now e) k)) e later) handle c.in_ok-drop_buffer.ensures.done, search rules)
