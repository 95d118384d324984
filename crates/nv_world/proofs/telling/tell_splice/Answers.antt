use Rattle.std.proofs.Common.{◌≡◌, ℕ, ℤ, List, [], ◌∷◌, length, eqb, true, sym, ◌∙◌, subst, arith, filter, rules, to_z, of_z}
use Rattle.std.specs.Int.{w64}
use Rattle.std.specs.List.{AllZip}
use Rattle.nv_rpc.specs.Messages.{Sent}
use Rattle.nv_subs.specs.Attachments.{AreRising, sessions_of, without_sessions}
use Rattle.nv_history.specs.Sessions.{splice_message}
use Rattle.nv_world.specs.inside.Notices.{sent_of_notice}
use Rattle.nv_world.specs.inside.Sessions.{IsSession}
use Rattle.nv_world.specs.inside.Tellings.{session_put, sessions_updated, is_closed_at}
use Rattle.nv_world.proofs.Hearings.{splice_heard, splice_unheard}
use Rattle.nv_world.proofs.Members.{same_number}
use Rattle.nv_world.proofs.telling.tell_splice.Goals as goal

nobody : (xs ys : List ℕ) → xs ≡ ys → eqb (length xs) 0 ≡ true → ys ≡ []
nobody [] ys same e = sym same
nobody (x ∷ xs) ys same e = absurd (let z : length (x ∷ xs) ≡ 0 = same_number _ 0 e in omega arith)

pub returns-then-is_empty : goal.returns-then-is_empty
returns-then-is_empty c = λ capacity caller ys old.
    let e : to_z w64 (of_z w64 c.args.buffer) ≡ c.args.buffer = search rules in
    splice_unheard c.args.at capacity caller c.args.buffer c.args.spliced c.args.subs.now c.args.sessions.now ys
    (nobody c.of.result.now (sessions_of c.args.subs.now c.args.buffer)
    (subst (λ (n : ℤ). c.of.result.now ≡ sessions_of c.args.subs.now n) e c.of.ensures.value) (sym c.is_empty.ensures ∙ c.if-is_empty.true)) old

pub returns : goal.returns
returns c = λ capacity caller ys old.
    let e : to_z w64 (of_z w64 c.args.buffer) ≡ c.args.buffer = search rules in
    let message : sent_of_notice c.in_ok-notice.notice ≡ splice_message c.args.buffer c.args.spliced =
    subst (λ (n : ℤ). sent_of_notice c.in_ok-notice.notice ≡ splice_message n c.args.spliced) e c.in_ok-notice.ensures.lines in
    splice_heard c.args.at capacity caller c.args.buffer c.args.spliced c.args.subs.now c.tell_all.new.subs c.args.sessions.now c.tell_all.new.sessions ys
    (subst (λ (n : ℤ). AreRising (sessions_of c.args.subs.now n)) e c.in_ok-tell_all.ensures.rising) old
    (subst (λ (m : Sent). AllZip (IsSession capacity) c.tell_all.new.sessions (sessions_updated (session_put c.args.at capacity m (λ x. x.following)) (sessions_of c.args.subs.now c.args.buffer) ys))
    message
    (subst (λ (n : ℤ). AllZip (IsSession capacity) c.tell_all.new.sessions
    (sessions_updated (session_put c.args.at capacity (sent_of_notice c.in_ok-notice.notice) (λ x. x.following)) (sessions_of c.args.subs.now n) ys)) e
    (c.in_ok-tell_all.ensures.sessions capacity ys (λ x. x.following) old.pairs)))
    (subst (λ (n : ℤ). (k : ℤ) → sessions_of c.tell_all.new.subs k ≡ without_sessions (filter (is_closed_at c.tell_all.new.sessions) (sessions_of c.args.subs.now n)) (sessions_of c.args.subs.now k)) e
    c.in_ok-tell_all.ensures.told)
