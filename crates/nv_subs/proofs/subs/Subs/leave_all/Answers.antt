use Rattle.std.proofs.Common.{◌∙◌, ap, sym, take, get_or}
use Rattle.std.proofs.lemmas.List.{take_more, take_all}
use Rattle.nv_subs.specs.Attachments.{sessions_of, without_session, without_sessions}
use Rattle.nv_subs.proofs.Attached.{one-more-left, nobody-left}
use Rattle.nv_subs.proofs.subs.Subs.leave_all.Goals as goal

pub loop-session-init : goal.loop-session-init
loop-session-init c = λ b. sym (nobody-left (sessions_of c.args.self.now b))

pub loop-session-preserved : goal.loop-session-preserved
loop-session-preserved c =
    let i = c.loop-session.session-index in
    let s = get_or c.args.several.now i 0 in
    λ b.
    let xs = sessions_of c.args.self.now b in
    c.leave.ensures b ∙ ap (without_session s) (c.loop-session.invariant b) ∙ sym (one-more-left (take i c.args.several.now) s xs)
    ∙ ap (λ l. without_sessions l xs) (sym (take_more c.args.several.now i 0 c.loop-session-test.true))

pub returns : goal.returns
returns c =
    let all = take_all c.loop-session.session-index c.args.several.now c.loop-session-test.false in
    λ b. c.loop-session.invariant b ∙ ap (λ l. without_sessions l (sessions_of c.args.self.now b)) all
