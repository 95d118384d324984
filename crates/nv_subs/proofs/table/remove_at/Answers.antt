use Rattle.std.proofs.Common.{rules, ◌≡◌, ◌∙◌, ap, sym, Some, None, to_z, of_z, w64}
use Rattle.nv_subs.specs.Attachments.{is_session_of}
use Rattle.nv_subs.proofs.Attached.{looked-up, sessions-found, sessions-none}
use Rattle.nv_subs.proofs.table.remove_at.Goals as goal

pub returns-in-Some-clause-removed : goal.returns-in-Some-clause-removed
returns-in-Some-clause-removed c =
    let key : to_z w64 (of_z w64 c.args.buffer) ≡ c.args.buffer = search rules in
    let es = c.args.table.now.entries in
    let at = looked-up es _ c.args.buffer (Some c.in-Some.sessions.now) key c.in-Some.ensures.value in
    let was = sessions-found es c.args.buffer c.in-Some.sessions.now at in
    c.remove.ensures.removed ∙ ap (λ l. is_session_of l c.args.session) (sym was)

pub returns-in-None-clause-removed : goal.returns-in-None-clause-removed
returns-in-None-clause-removed c =
    let key : to_z w64 (of_z w64 c.args.buffer) ≡ c.args.buffer = search rules in
    let es = c.args.table.now.entries in
    let at = looked-up es _ c.args.buffer None key c.in-None.ensures.value in
    ap (λ l. is_session_of l c.args.session) (sym (sessions-none es c.args.buffer at))
