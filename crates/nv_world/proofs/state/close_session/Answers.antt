use Rattle.std.proofs.Common.{◌≡◌, false, true, ℕ, suc, ◌<◌, List, length, Option, Some, None, option_map, sym, ap, ◌∙◌, subst, refl, arith}
use Rattle.nv_model.specs.Standing.{PresentEditor, seen_now}
use Rattle.nv_scene.specs.Settling.{IsSettled}
use Rattle.nv_history.specs.Events.{Cause, entry_of, closed_at, closes}
use Rattle.nv_history.specs.Sessions.{Session, session_closed_by}
use Rattle.nv_history.specs.Worlds.{close_outcome, live_close_outcome, with_session_at, after_settled_entry}
use Rattle.nv_core.specs.Contents.{plain_cause}
use Rattle.nv_core.specs.Sessions.{cause_of}
use Rattle.nv_core.specs.declared.effect.Cause.{Cause as KeptCause}
use Rattle.nv_world.specs.declared.session.Session.{Session as Kept}
use Rattle.nv_world.specs.inside.States.{StandsNumbered, with_next}
use Rattle.nv_world.proofs.Finding.{found, session_absent}
use Rattle.nv_core.specs.declared.effect.Effect.TheVariants.{Closed}
use Rattle.nv_world.proofs.Standings.{keeps_uis}
use Rattle.nv_world.proofs.Steppings.{stranger_refused, gone_refused, ok_becomes, plain_is, nobody_has}
use Rattle.nv_world.proofs.state.close_session.Goals as goal

pub returns-in_default-clause-steps : goal.returns-in_default-clause-steps
returns-in_default-clause-steps c = λ w at.
    let stands = at.stands.state in
    let none = nobody_has w.capacity c.args.state.now.sessions.items w.sessions c.len.result c.args.session stands.sessions.pairs
    (omega (arith, c.args.state.now.sessions.ok.0)) c.in_default.ensures in
    stranger_refused _ _ c.args.numbers _ _ (ap (λ (o : Option Session). close_outcome o w c.args.session) (session_absent w c.args.session none)) refl

pub returns-in-Some-closed-clause-steps : goal.returns-in-Some-closed-clause-steps
returns-in-Some-closed-clause-steps c = λ w at.
    let stands = at.stands.state in
    let f = found w.capacity c.args.state.now.sessions.items w c.args.session c.in-Some.place c.index.result.now c.in-Some.ensures.0
    (omega (arith, c.args.state.now.sessions.ok.0, c.in-Some.ensures.1)) stands.sessions.pairs in
    let shut : Some (plain_cause c.in-Some-closed.cause) ≡ f.y.closed =
    sym (ap (λ (o : Option KeptCause). option_map plain_cause o) c.in-Some-closed.is)
    ∙ ap (λ (x : Kept). option_map plain_cause x.closed) c.index.ensures ∙ f.is.closed in
    gone_refused _ _ c.args.numbers (entry_of (plain_cause c.in-Some-closed.cause)) _
    (ap (λ (o : Option Session). close_outcome o w c.args.session) f.is_of ∙ ap (λ (o : Option Cause). live_close_outcome o w c.args.session f.y) (sym shut))
    refl

pub returns-in-Some-closed-clause-gone : goal.returns-in-Some-closed-clause-gone
returns-in-Some-closed-clause-gone c = λ w at.
    let stands = at.stands.state in
    let f = found w.capacity c.args.state.now.sessions.items w c.args.session c.in-Some.place c.index.result.now c.in-Some.ensures.0
    (omega (arith, c.args.state.now.sessions.ok.0, c.in-Some.ensures.1)) stands.sessions.pairs in
    ap cause_of f.is_of ∙ sym f.is.closed ∙ sym (ap (λ (x : Kept). option_map plain_cause x.closed) c.index.ensures)
    ∙ ap (λ (o : Option KeptCause). option_map plain_cause o) c.in-Some-closed.is

pub returns-clause-steps : goal.returns-clause-steps
returns-clause-steps c = λ w at.
    let stands = at.stands.state in
    let f = found w.capacity c.args.state.now.sessions.items w c.args.session c.in-Some.place c.index.result.now c.in-Some.ensures.0
    (omega (arith, c.args.state.now.sessions.ok.0, c.in-Some.ensures.1)) stands.sessions.pairs in
    let live : f.y.closed ≡ None =
    sym f.is.closed ∙ sym (ap (λ (x : Kept). option_map plain_cause x.closed) c.index.ensures)
    ∙ ap (λ (o : Option KeptCause). option_map plain_cause o) c.in_default-closed.is in
    let number : suc c.in-Some.place ≡ c.args.session = omega (arith, c.in-Some.ensures.0) in
    ok_becomes c.args.state.now c.finish_settled.new.state c.args.numbers Closed (after_settled_entry false (with_session_at w c.args.session (session_closed_by (closed_at w.entries) f.y))) _ closes
    (ap (λ (o : Option Session). close_outcome o w c.args.session) f.is_of ∙ ap (λ (o : Option Cause). live_close_outcome o w c.args.session f.y) live)
    (plain_is Closed refl)
    (subst (λ (s : ℕ). StandsNumbered c.finish_settled.new.state (with_next c.args.numbers) (after_settled_entry false (with_session_at w s (session_closed_by (closed_at w.entries) f.y)))) number
    (c.in-Ok.ensures.world (with_session_at w (suc c.in-Some.place) (session_closed_by (closed_at w.entries) f.y))
    (c.close_at.ensures.world w f.y stands at.stands.numbers.entries_are f.there)
    (record { capacity_is = at.stands.numbers.capacity_is; last_is = at.stands.numbers.last_is; entries_are = at.stands.numbers.entries_are; stamps = at.stands.numbers.stamps }) at.few
    (λ unseen. subst (λ (e : PresentEditor). IsSettled (seen_now e)) (sym c.close_at.ensures.editor) at.stands.settled)))

pub returns-in_default-finish_settled-clause-memory : goal.returns-in_default-finish_settled-clause-memory
returns-in_default-finish_settled-clause-memory c = λ w at keeps same.
    let stands = at.stands.state in
    let f = found w.capacity c.args.state.now.sessions.items w c.args.session c.in-Some.place c.index.result.now c.in-Some.ensures.0
    (omega (arith, c.args.state.now.sessions.ok.0, c.in-Some.ensures.1)) stands.sessions.pairs in
    let e : false ≡ true =
    keeps_uis c.close_at.new.state c.args.numbers w c.args.session c.in-Some.place (session_closed_by (closed_at w.entries) f.y) c.in-Some.ensures.0 at.live at.stands.numbers
    (c.close_at.ensures.world w f.y stands at.stands.numbers.entries_are f.there) keeps.0 keeps.1 (c.in_default-finish_settled.ensures.memory refl) in
    cc
