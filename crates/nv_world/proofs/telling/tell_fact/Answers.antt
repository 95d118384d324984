use Rattle.std.proofs.Common.{◌≡◌, ℤ, sym, subst, rules, to_z, of_z}
use Rattle.std.specs.Int.{w64}
use Rattle.nv_model.specs.Answers.{edited, deleted}
use Rattle.nv_editor.specs.Facts.{fact_of}
use Rattle.nv_editor.specs.declared.happened.Fact.{Fact}
use Rattle.nv_world.specs.inside.Sessions.{AreSessions}
use Rattle.nv_world.specs.inside.Tellings.{sessions_hear}
use Rattle.nv_world.proofs.Hearings.{quit_heard}
use Rattle.nv_world.proofs.telling.tell_fact.Goals as goal

pub returns-in_ok-tell_splice-in-Edited : goal.returns-in_ok-tell_splice-in-Edited
returns-in_ok-tell_splice-in-Edited c = λ capacity ys old.
    let e : to_z w64 (of_z w64 c.in-Edited.buffer) ≡ c.in-Edited.buffer = search rules in
    subst (λ (f : Fact). AreSessions capacity c.tell_splice.new.subs c.tell_splice.new.sessions (sessions_hear c.args.at capacity c.args.caller (fact_of f) ys)) (sym c.in-Edited.is)
    (subst (λ (n : ℤ). AreSessions capacity c.tell_splice.new.subs c.tell_splice.new.sessions (sessions_hear c.args.at capacity c.args.caller (edited n c.in-Edited.spliced) ys)) e
    (c.in_ok-tell_splice-in-Edited.ensures capacity c.args.caller ys old))

pub returns-in_ok-tell_deleted-in-Deleted : goal.returns-in_ok-tell_deleted-in-Deleted
returns-in_ok-tell_deleted-in-Deleted c = λ capacity ys old.
    let e : to_z w64 (of_z w64 c.in-Deleted.buffer) ≡ c.in-Deleted.buffer = search rules in
    subst (λ (f : Fact). AreSessions capacity c.tell_deleted.new.subs c.tell_deleted.new.sessions (sessions_hear c.args.at capacity c.args.caller (fact_of f) ys)) (sym c.in-Deleted.is)
    (subst (λ (n : ℤ). AreSessions capacity c.tell_deleted.new.subs c.tell_deleted.new.sessions (sessions_hear c.args.at capacity c.args.caller (deleted n) ys)) e
    (c.in_ok-tell_deleted-in-Deleted.ensures capacity c.args.caller ys old))

pub returns-in-Quit : goal.returns-in-Quit
returns-in-Quit c = λ capacity ys old.
    subst (λ (f : Fact). AreSessions capacity c.args.subs.now c.args.sessions.now (sessions_hear c.args.at capacity c.args.caller (fact_of f) ys)) (sym c.in-Quit.is)
    (quit_heard c.args.at capacity c.args.caller c.args.subs.now c.args.sessions.now ys old)
