use Rattle.std.proofs.Common.{◌≡◌, ℕ, suc, ◌+◌, List, length, map, All, Option, sym, ap, ◌∙◌, subst, refl, arith}
use Rattle.nv_rpc.specs.Messages.{Sent, IsSendable}
use Rattle.nv_history.specs.Sessions.{Session, session_emptied, shown_after}
use Rattle.nv_core.specs.Contents.{sent_of_shared}
use Rattle.nv_world.specs.declared.session.Session.{Session as Kept}
use Rattle.nv_world.specs.inside.Sessions.{IsSession}
use Rattle.nv_world.proofs.Finding.{found}
use Rattle.nv_world.proofs.Rounds.{kept_at}
use Rattle.nv_world.proofs.Stating.{with_emptied}
use Rattle.nv_world.proofs.state.batch_of.Goals as goal

pub returns-clause-world : goal.returns-clause-world
returns-clause-world c = λ w y stands there.
    let was : IsSession w.capacity c.index_mut.result.now y =
    subst (λ (x : Kept). IsSession w.capacity x y) (sym c.index_mut.ensures.value)
    (kept_at w.capacity c.args.state.now.sessions.items w.sessions c.args.place c.index_mut.result.now y stands.sessions.pairs there) in
    let old : IsSession w.capacity c.index.result.now y =
    subst (λ (x : Kept). IsSession w.capacity x y) (sym c.index.ensures)
    (kept_at w.capacity c.args.state.now.sessions.items w.sessions c.args.place c.index.result.now y stands.sessions.pairs there) in
    let shown : c.shown_after-shown.result ≡ shown_after c.args.is_due w.stamp y.shown =
    c.shown_after-shown.ensures ∙ (λ i. shown_after c.args.is_due (stands.stamp i) (old.shown i)) in
    let is : IsSession w.capacity c.taken.new.session (session_emptied (shown_after c.args.is_due w.stamp y.shown) y) =
    subst (λ (k : ℕ). IsSession w.capacity c.taken.new.session (session_emptied k y)) shown (c.in_ok-messages.ensures.session w.capacity y was) in
    record {
      editor = stands.editor;
      sealed = stands.sealed;
      sessions = with_emptied w.capacity c.args.place c.args.state.now.subs c.args.state.now.sessions.items w.sessions c.taken.new.session y
          (session_emptied (shown_after c.args.is_due w.stamp y.shown) y) stands.sessions there refl is;
      ended = stands.ended;
      stamp = stands.stamp;
    }

pub returns-clause-messages : goal.returns-clause-messages
returns-clause-messages c = λ w y stands there.
    let was : IsSession w.capacity c.index_mut.result.now y =
    subst (λ (x : Kept). IsSession w.capacity x y) (sym c.index_mut.ensures.value)
    (kept_at w.capacity c.args.state.now.sessions.items w.sessions c.args.place c.index_mut.result.now y stands.sessions.pairs there) in
    c.in_ok-messages.ensures.messages ∙ was.waiting

pub returns-clause-sendable : goal.returns-clause-sendable
returns-clause-sendable c = λ w stands.
    let f = found w.capacity c.args.state.now.sessions.items w (c.args.place + 1) c.args.place c.index_mut.result.now refl
    (omega (arith, c.args.state.now.sessions.ok.0, c.requires.place)) stands.sessions.pairs in
    let was : IsSession w.capacity c.index_mut.result.now f.y =
    subst (λ (x : Kept). IsSession w.capacity x f.y) (sym c.index_mut.ensures.value) f.is in
    subst (λ (l : List Sent). All IsSendable l) (sym (c.in_ok-messages.ensures.messages ∙ was.waiting)) was.sendable
