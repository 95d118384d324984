use Rattle.std.proofs.Common.{◌≡◌, ◌++◌, option_map, List, sym, ap, ◌∙◌, subst, refl, arith}
use Rattle.nv_editor.specs.Facts.{facts_of}
use Rattle.nv_editor.specs.declared.happened.Fact.{Fact}
use Rattle.nv_rpc.specs.Frames.{call_of_frame}
use Rattle.nv_history.specs.Sessions.{has_quit}
use Rattle.nv_history.specs.Worlds.{outcome_of_frame}
use Rattle.nv_world.specs.declared.session.Session.{Session as Kept}
use Rattle.nv_world.specs.inside.Sessions.{AreSessions}
use Rattle.nv_rpc.specs.MessageView.{sent_of}
use Rattle.nv_world.specs.inside.Tellings.{sessions_hear_all, sessions_replied}
use Rattle.nv_world.specs.inside.Splicing.{splices_told}
use Rattle.nv_world.proofs.Splicings.{call_splices}
use Rattle.nv_world.proofs.Steppings.{made_call, whole}
use Rattle.nv_world.proofs.state.make_call.Goals as goal

pub returns-clause-stands : goal.returns-clause-stands
returns-clause-stands c = λ w stands at.
    made_call c.args.state.now _ c.end_if.new.state c.args.at w c.args.session (call_of_frame c.args.frame.now) _ _ _ _ c.has_quit-quits.result
    stands at (c.in_ok-answered.ensures.answer w.editor stands.editor) c.in_ok-answered.ensures.sealed refl refl
    (subst (λ (l : List Kept). AreSessions w.capacity c.tell_call.new.subs l
    (sessions_replied c.args.at w.capacity c.args.session (option_map sent_of c.in_ok-answered.answered.answer) (sessions_hear_all c.args.at w.capacity c.args.session (facts_of c.in_ok-answered.answered.facts.items) w.sessions)))
    (whole c.args.state.now.sessions.len c.tell_call.new.sessions c.args.state.now.sessions.items (omega (arith, c.tell_call.auto.sessions, c.deref_mut.ensures.len)))
    (c.in_ok-tell_call.ensures w.capacity w.sessions
    (subst (λ (l : List Kept). AreSessions w.capacity c.args.state.now.subs l w.sessions) (sym c.deref_mut.ensures.value) stands.sessions)))
    (c.has_quit-quits.ensures ∙ ap (λ (l : List Fact). has_quit (facts_of l)) c.deref.ensures.value)
    (λ v middle e. c.end_if.ensures.world v middle e)

pub returns-clause-splices : goal.returns-clause-splices
returns-clause-splices c = λ w stands.
    call_splices w.editor c.args.session (call_of_frame c.args.frame.now) (facts_of c.in_ok-answered.answered.facts.items) c.args.splices.now.items c.put_splices.new.splices.items
    (c.in_ok-answered.ensures.answer w.editor stands.editor).told
    (c.in_ok-put_splices.ensures ∙ ap (λ (l : List Fact). c.args.splices.now.items ++ splices_told (facts_of l)) c.deref-2.ensures.value)
