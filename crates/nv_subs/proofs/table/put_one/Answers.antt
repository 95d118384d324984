use Rattle.std.proofs.Common.{rules, ◌≡◌, subst, Some, to_z, of_z, w64}
use Rattle.nv_subs.specs.Attachments.{HasSessions}
use Rattle.nv_subs.proofs.Attached.{updated-at}
use Rattle.nv_subs.proofs.table.put_one.Goals as goal

pub returns-clause-ok : goal.returns-clause-ok
returns-clause-ok c =
    let key : to_z w64 (of_z w64 c.args.buffer) ≡ c.args.buffer = search rules in
    let es = c.args.table.now.entries in
    let has = updated-at es c.insert.new.self.entries _ c.args.buffer (Some c.in_ok-sessions.sessions) key c.in_ok-insert.ensures.updates.0 in
    subst (HasSessions es c.insert.new.self.entries c.args.buffer) c.in_ok-sessions.ensures has
