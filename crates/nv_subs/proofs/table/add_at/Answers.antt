use Rattle.std.proofs.Common.{rules, ◌≡◌, ◌∙◌, ap, sym, subst, Some, not, to_z, of_z, w64, is_some}
use Rattle.nv_subs.specs.Attachments.{HasSessions, is_session_of, with_session}
use Rattle.nv_subs.proofs.Attached.{updated-at, looked-up, sessions-found}
use Rattle.std.proofs.lemmas.Map.Steps.{set_value_same}
use Rattle.nv_subs.proofs.Attached.{on-err}
use Rattle.nv_subs.proofs.table.add_at.Goals as goal

pub returns-in_err-added-in-Some-clause-err : goal.returns-in_err-added-in-Some-clause-err
returns-in_err-added-in-Some-clause-err c =
    let w = c.add.new.self in
    let found = sym c.in-Some.ensures.value ∙ ap Some (sym c.in_err-added-in-Some.ensures.err) in
    on-err c.from_residual.result _ ((c.get_mut.follows.holds w).0 ∙ set_value_same _ c.args.table.now.entries w found)

pub returns-in_ok-added-in-Some-clause-ok : goal.returns-in_ok-added-in-Some-clause-ok
returns-in_ok-added-in-Some-clause-ok c =
    let key : to_z w64 (of_z w64 c.args.buffer) ≡ c.args.buffer = search rules in
    let es = c.args.table.now.entries in
    let w = c.add.new.self in
    let new = (c.get_mut.follows.lender w).entries in
    let at = looked-up es _ c.args.buffer (Some c.in-Some.sessions.now) key c.in-Some.ensures.value in
    let was = sessions-found es c.args.buffer c.in-Some.sessions.now at in
    let there = ap (λ o. is_some o) (sym c.in-Some.ensures.value) in
    let has = updated-at es new _ c.args.buffer (Some w) key ((c.get_mut.follows.holds w).3 there).0 in
    subst (HasSessions es new c.args.buffer) (c.in_ok-added-in-Some.ensures.ok ∙ ap (with_session c.args.session) (sym was)) has

pub returns-in_ok-added-in-Some-clause-added : goal.returns-in_ok-added-in-Some-clause-added
returns-in_ok-added-in-Some-clause-added c =
    let key : to_z w64 (of_z w64 c.args.buffer) ≡ c.args.buffer = search rules in
    let es = c.args.table.now.entries in
    let at = looked-up es _ c.args.buffer (Some c.in-Some.sessions.now) key c.in-Some.ensures.value in
    let was = sessions-found es c.args.buffer c.in-Some.sessions.now at in
    c.in_ok-added-in-Some.ensures.added ∙ ap (λ l. not (is_session_of l c.args.session)) (sym was)
