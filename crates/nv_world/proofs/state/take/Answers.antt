use Rattle.std.proofs.Common.{◌≡◌, ℕ, suc, Bool, true, false, List, Option, option_map, sym, ap, ◌∙◌, subst, refl, arith}
use Rattle.nv_history.specs.Events.{Cause}
use Rattle.nv_history.specs.Sessions.{Session}
use Rattle.nv_history.specs.Worlds.{is_nothing_due, is_scene_due, take_outcome, some_take_outcome, empty_take_outcome}
use Rattle.nv_core.specs.Outcomes.{effect_of_taken}
use Rattle.nv_world.specs.declared.session.Session.{Session as Kept}
use Rattle.nv_world.specs.inside.Sessions.{IsSession}
use Rattle.nv_world.specs.inside.States.{Changes}
use Rattle.nv_core.specs.Outcomes.{taken_as}
use Rattle.nv_world.proofs.Finding.{found, nothing_is, session_absent, something_is}
use Rattle.nv_world.proofs.Standings.{due_is}
use Rattle.nv_world.proofs.Steppings.{at_outcome, stranger_refused, ok_idles, nobody_has}
use Rattle.nv_world.proofs.state.take.Goals as goal

pub returns-in_default-clause-steps : goal.returns-in_default-clause-steps
returns-in_default-clause-steps c = λ w at.
    let stands = at.stands.state in
    let none = nobody_has w.capacity c.args.state.now.sessions.items w.sessions c.len.result c.args.session stands.sessions.pairs
    (omega (arith, c.args.state.now.sessions.ok.0)) c.in_default.ensures in
    stranger_refused _ _ c.args.numbers _ _ (ap (λ (o : Option Session). take_outcome o w c.args.session) (session_absent w c.args.session none)) refl

pub returns-then-not-is_any_due-clause-steps : goal.returns-then-not-is_any_due-clause-steps
returns-then-not-is_any_due-clause-steps c = λ w at.
    let stands = at.stands.state in
    let f = found w.capacity c.args.state.now.sessions.items w c.args.session c.in-Some.place c.index-found.result.now c.in-Some.ensures.0
    (omega (arith, c.args.state.now.sessions.ok.0, c.in-Some.ensures.1)) stands.sessions.pairs in
    let was : IsSession w.capacity c.index-found.result.now f.y = subst (λ (x : Kept). IsSession w.capacity x f.y) (sym c.index-found.ensures) f.is in
    let due : c.is_scene_due-is_due.result ≡ is_scene_due w c.args.session f.y =
    c.is_scene_due-is_due.ensures ∙ due_is c.args.state.now w c.args.session f.y _ _ stands c.uis.ensures.uis was.shown in
    let none : is_nothing_due f.y.waiting c.is_scene_due-is_due.result ≡ true =
    nothing_is c.is_any_due.result _ (c.is_any_due.ensures w.capacity f.y was) c.if-not-is_any_due.true in
    ok_idles c.args.state.now _ c.args.numbers (effect_of_taken c.empty_take.result) _ c.empty_take.ensures.scene
    (ap (λ (o : Option Session). take_outcome o w c.args.session) f.is_of
    ∙ ap (λ (b : Bool). some_take_outcome (is_nothing_due f.y.waiting b) b w c.args.session f.y) (sym due)
    ∙ ap (λ (b : Bool). some_take_outcome b c.is_scene_due-is_due.result w c.args.session f.y) none
    ∙ ap (λ (o : Option Cause). empty_take_outcome o) (sym was.closed) ∙ sym c.empty_take.ensures.effect)
    refl

pub returns-clause-steps : goal.returns-clause-steps
returns-clause-steps c = λ w at.
    let stands = at.stands.state in
    let f = found w.capacity c.args.state.now.sessions.items w c.args.session c.in-Some.place c.index-found.result.now c.in-Some.ensures.0
    (omega (arith, c.args.state.now.sessions.ok.0, c.in-Some.ensures.1)) stands.sessions.pairs in
    let was : IsSession w.capacity c.index-found.result.now f.y = subst (λ (x : Kept). IsSession w.capacity x f.y) (sym c.index-found.ensures) f.is in
    let due : c.is_scene_due-is_due.result ≡ is_scene_due w c.args.session f.y =
    c.is_scene_due-is_due.ensures ∙ due_is c.args.state.now w c.args.session f.y _ _ stands c.uis.ensures.uis was.shown in
    let some : is_nothing_due f.y.waiting c.is_scene_due-is_due.result ≡ false =
    something_is c.is_any_due.result _ (c.is_any_due.ensures w.capacity f.y was) c.if-not-is_any_due.false in
    let number : c.args.session ≡ suc c.in-Some.place = omega (arith, c.in-Some.ensures.0) in
    at_outcome c.args.state.now c.take_some.new.state c.args.numbers (taken_as c.args.session c.take_some.result) _ _
    (ap (λ (o : Option Session). take_outcome o w c.args.session) f.is_of
    ∙ ap (λ (b : Bool). some_take_outcome (is_nothing_due f.y.waiting b) b w c.args.session f.y) (sym due)
    ∙ ap (λ (b : Bool). some_take_outcome b c.is_scene_due-is_due.result w c.args.session f.y) some
    ∙ ap (λ (s : ℕ). some_take_outcome false c.is_scene_due-is_due.result w s f.y) number)
    (subst
    (λ (s : ℕ). Changes c.args.state.now c.take_some.new.state c.args.numbers (taken_as s c.take_some.result)
    (some_take_outcome false c.is_scene_due-is_due.result w (suc c.in-Some.place) f.y))
    (sym number) (c.take_some.ensures.steps w f.y at f.there))
