use Rattle.std.proofs.Common.{rules, ◌≡◌, ◌∙◌, sym, Some, None, to_z, of_z, w64}
use Rattle.nv_subs.proofs.Attached.{looked-up, sessions-found, sessions-none}
use Rattle.nv_subs.proofs.Ranks.{rising-none}
use Rattle.nv_subs.proofs.table.sessions_at.Goals as goal

pub returns-in-Some-clause-value : goal.returns-in-Some-clause-value
returns-in-Some-clause-value c =
    let key : to_z w64 (of_z w64 c.args.buffer) ≡ c.args.buffer = search rules in
    let es = c.args.table.now.entries in
    let at = looked-up es _ c.args.buffer (Some c.in-Some.sessions.now) key c.in-Some.ensures.value in
    c.as_slice.ensures.value ∙ sym (sessions-found es c.args.buffer c.in-Some.sessions.now at)

pub returns-in-None-clause-value : goal.returns-in-None-clause-value
returns-in-None-clause-value c =
    let key : to_z w64 (of_z w64 c.args.buffer) ≡ c.args.buffer = search rules in
    let es = c.args.table.now.entries in
    let at = looked-up es _ c.args.buffer None key c.in-None.ensures.value in
    sym (sessions-none es c.args.buffer at)

pub returns-in-None-clause-rising : goal.returns-in-None-clause-rising
returns-in-None-clause-rising c = rising-none
