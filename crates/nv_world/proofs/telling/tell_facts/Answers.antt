use Rattle.std.proofs.Common.{◌≡◌, List, [], ◌∷◌, sym, ap, ◌∙◌, subst, rules, length, refl, arith}
use Rattle.std.specs.Vec.Iter.{into_iter_items}
use Rattle.nv_editor.specs.Facts.{fact_of, facts_of}
use Rattle.nv_editor.specs.declared.happened.Fact.{Fact}
use Rattle.nv_history.specs.Sessions.{Session}
use Rattle.nv_world.specs.inside.Sessions.{AreSessions}
use Rattle.nv_world.specs.inside.Tellings.{sessions_hear, sessions_hear_all}
use Rattle.nv_world.proofs.Hearings.{Hears}
use Rattle.nv_world.proofs.telling.tell_facts.Goals as goal

none_left : (facts : List Fact) → length facts ≡ 0 → facts ≡ []
none_left [] e = refl
none_left (fact ∷ facts) e = absurd (omega arith)

pub loop-fact-init : goal.loop-fact-init
loop-fact-init c = λ capacity ys old.
    let all : into_iter_items c.into_iter-fact-iterator.result ≡ c.args.facts.items = search rules in
    record {
      zs = ys;
      are = old;
      rest = ap (λ (l : List Fact). sessions_hear_all c.args.at capacity c.args.caller (facts_of l) ys) all;
    }

pub loop-fact-preserved : goal.loop-fact-preserved
loop-fact-preserved c = λ capacity ys old.
    let parts : into_iter_items c.loop-fact.fact-iterator ≡ c.in-Some.fact ∷ into_iter_items c.next.new.self = search rules in
    let h = c.loop-fact.invariant capacity ys old in
    record {
      zs = sessions_hear c.args.at capacity c.args.caller (fact_of c.in-Some.fact) h.zs;
      are = c.in_ok-tell_fact.ensures capacity h.zs h.are;
      rest = sym (ap (λ (l : List Fact). sessions_hear_all c.args.at capacity c.args.caller (facts_of l) h.zs) parts) ∙ h.rest;
    }

pub returns : goal.returns
returns c = λ capacity ys old.
    let few : length (into_iter_items c.loop-fact.fact-iterator) ≡ 0 = search rules in
    let h = c.loop-fact.invariant capacity ys old in
    subst (λ (l : List Session). AreSessions capacity c.loop-fact.subs c.loop-fact.sessions l)
    (sym (ap (λ (l : List Fact). sessions_hear_all c.args.at capacity c.args.caller (facts_of l) h.zs) (none_left _ few)) ∙ h.rest) h.are
