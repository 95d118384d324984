use Rattle.std.proofs.Common.{rules, ◌≡◌, ◌∙◌, ℕ, List, [], ◌∷◌, ◌++◌, Option, Ok, Err, ap, refl, sym, subst, append_assoc, arith}
use Rattle.std.proofs.lemmas.Result.{err_from_is_err_and}
use Rattle.nv_world.specs.Worlds.{WorldRecord}
use Rattle.nv_book.specs.Reading.{IsWhyUnread}
use Rattle.nv_book.specs.Upcoming.{ReadsNext}
use Rattle.nv_book.specs.declared.faults.Unread.{Unread}
use Rattle.nv_book.specs.declared.faults.Unread.TheVariants.{NoMemory}
use Rattle.nv_book.specs.declared.replay.Upcoming.{Upcoming}
use Rattle.nv_watch.specs.Verdicts.{Sight, sight}
use Rattle.nv_watch.specs.Shown.{HasCaughtUp}
use Rattle.nv_replay.specs.inside.Tallies.{IsGoneOver, IsGoingOver}
use Rattle.nv_replay.proofs.Givings.{gave_none, gave_then}
use Rattle.nv_replay.proofs.Seeing.{coming_over, gone_over, none_on_err, over_none, unread_all}
use Rattle.nv_replay.proofs.Following.{follow_all, follow_more, follow_none, follow_same}
use Rattle.nv_replay.proofs.checking.go_over.Goals as goal

pub loop-round-init : goal.loop-round-init
loop-round-init g c = record {
  went = ([], gave_none _ _, [], λ fed begun. ([], [], over_none (fed ++ []) _ _ (record { bytes_are = refl; differs_is = refl }) (search rules)), follow_none _ _ _ _ _);
  same = refl;
  later = omega arith;
}

pub returns-in_err-upcoming-clause-goes : goal.returns-in_err-upcoming-clause-goes
returns-in_err-upcoming-clause-goes g c =
    let i = c.loop-round.invariant.went in
    let t = c.in_err-upcoming.ensures.goes in
    let p = err_from_is_err_and c.from_residual.result c.from_residual.ensures.1 in
    let is : c.from_residual.result ≡ Err c.in_err-upcoming.field-0.0 = p.1 ∙ ap (λ (u : Unread). Err u) p.2 in (
      i.0 ++ t.0,
      gave_then _ _ _ _ _ _ i.0 t.0 i.1 t.1,
      i.2,
      λ fed begun.
          let h = i.3 fed begun in
          unread_all (fed ++ (i.0 ++ t.0)) _ i.2 _ _ _ is
          (subst (λ (bs : List ℕ). IsWhyUnread c.read.new.self.start.limits bs (g.I.Source.words c.read.new.source).left c.in_err-upcoming.field-0.0)
          (append_assoc fed i.0 t.0) (t.2 (fed ++ i.0) h.0 h.1 h.2.replaying)),
      none_on_err _ _ _ is,
    )

pub returns-in_err-step-in-Some-clause-goes : goal.returns-in_err-step-in-Some-clause-goes
returns-in_err-step-in-Some-clause-goes g c =
    let i = c.loop-round.invariant.went in
    let r = c.in_ok-upcoming.ensures.goes in
    let t = c.in_err-step-in-Some.ensures.goes in
    let p = err_from_is_err_and c.from_residual-in_err-step-in-Some.result c.from_residual-in_err-step-in-Some.ensures.1 in
    let is : c.from_residual-in_err-step-in-Some.result ≡ Err c.in_err-step-in-Some.field-0.0 = p.1 ∙ ap (λ (u : Unread). Err u) p.2 in (
      i.0 ++ (r.0 ++ t.0),
      gave_then _ _ _ _ _ _ i.0 (r.0 ++ t.0) i.1 (gave_then _ _ _ _ _ _ r.0 t.0 r.1 t.1),
      i.2,
      λ fed begun.
          let h = i.3 fed begun in
          let u = subst (λ (o : Option Upcoming). ReadsNext ((fed ++ i.0) ++ r.0) (g.I.Source.words c.read.new.source).left h.0 h.1 (Ok o) c.read.new.self) c.in-Some.is (r.2 (fed ++ i.0) h.0 h.1 h.2.replaying) in
          let coming = coming_over (fed ++ i.0) ((fed ++ i.0) ++ r.0) h.0 h.1 i.2 _ c.in-Some.upcoming c.loop-round.replay c.read.new.self h.2 c.in_ok-upcoming.ensures.same u in
          unread_all (fed ++ (i.0 ++ (r.0 ++ t.0))) _ i.2 _ _ _ is
          (subst (λ (bs : List ℕ). IsWhyUnread c.pass_one.new.replay.start.limits bs (g.I.Source.words c.pass_one.new.source).left c.in_err-step-in-Some.field-0.0)
          (append_assoc (fed ++ i.0) r.0 t.0 ∙ append_assoc fed i.0 (r.0 ++ t.0)) (t.2 ((fed ++ i.0) ++ r.0) h.0 h.1 i.2 coming)),
      none_on_err _ _ _ is,
    )

pub returns-in_err-catch_up-in-None-clause-goes : goal.returns-in_err-catch_up-in-None-clause-goes
returns-in_err-catch_up-in-None-clause-goes g c =
    let i = c.loop-round.invariant.went in
    let t = c.in_ok-upcoming.ensures.goes in
    let p = err_from_is_err_and c.from_residual-in_err-catch_up-in-None.result c.from_residual-in_err-catch_up-in-None.ensures.1 in
    let is : c.from_residual-in_err-catch_up-in-None.result ≡ Err NoMemory = p.1 ∙ ap (λ (u : Unread). Err u) p.2 in (
      i.0 ++ t.0,
      gave_then _ _ _ _ _ _ i.0 t.0 i.1 t.1,
      i.2,
      λ fed begun. unread_all (fed ++ (i.0 ++ t.0)) _ i.2 _ _ _ is tt,
      none_on_err _ _ _ is,
    )

pub returns-in-None-clause-goes : goal.returns-in-None-clause-goes
returns-in-None-clause-goes g c =
    let i = c.loop-round.invariant.went in
    let t = c.in_ok-upcoming.ensures.goes in
    let world : c.world.result.now ≡ c.loop-round.replay.world = c.world.ensures ∙ c.in_ok-upcoming.ensures.world in
    let all =
    follow_all _ _ _ c.loop-round.follows _ _ _ i.2 _ i.4 c.in_ok-catch_up-in-None.ensures.count
    (λ j b d was is. subst (λ (k : WorldRecord). HasCaughtUp k (g.W.Watcher.HasSeen b) (g.W.Watcher.IsBehind b) (g.W.Watcher.HasSeen d) (g.W.Watcher.Breaks b) (g.W.Watcher.Breaks d)) world
    (c.in_ok-catch_up-in-None.ensures.caught j b d was is)) in (
      i.0 ++ t.0,
      gave_then _ _ _ _ _ _ i.0 t.0 i.1 t.1,
      i.2,
      λ fed begun.
          let h = i.3 fed begun in
          subst (λ (bs : List ℕ). IsGoneOver bs (g.I.Source.words c.read.new.source).left i.2 c.loop-round.tally c.read.new.self)
          (append_assoc fed i.0 t.0)
          (gone_over (fed ++ i.0) ((fed ++ i.0) ++ t.0) _ h.0 h.1 i.2 _ c.loop-round.replay c.read.new.self h.2 c.in_ok-upcoming.ensures.same
          (subst (λ (o : Option Upcoming). ReadsNext ((fed ++ i.0) ++ t.0) (g.I.Source.words c.read.new.source).left h.0 h.1 (Ok o) c.read.new.self) c.in-None.is (t.2 (fed ++ i.0) h.0 h.1 h.2.replaying))),
      λ j old new before was is seen. all.saw j old new before was is seen,
    )

pub returns-in-None-clause-count : goal.returns-in-None-clause-count
returns-in-None-clause-count g c = c.in_ok-catch_up-in-None.ensures.count ∙ c.loop-round.invariant.went.4.count

pub returns-in-None-clause-rule : goal.returns-in-None-clause-rule
returns-in-None-clause-rule g c = λ j old new before x was is.
    let i = c.loop-round.invariant.went in
    let world : c.world.result.now ≡ c.loop-round.replay.world = c.world.ensures ∙ c.in_ok-upcoming.ensures.world in
    let all =
    follow_all _ _ _ c.loop-round.follows _ _ _ i.2 _ i.4 c.in_ok-catch_up-in-None.ensures.count
    (λ n b d there here. subst (λ (k : WorldRecord). HasCaughtUp k (g.W.Watcher.HasSeen b) (g.W.Watcher.IsBehind b) (g.W.Watcher.HasSeen d) (g.W.Watcher.Breaks b) (g.W.Watcher.Breaks d)) world
    (c.in_ok-catch_up-in-None.ensures.caught n b d there here)) in
    all.rule j old new before x was is

pub loop-round-preserved : goal.loop-round-preserved
loop-round-preserved g c =
    let i = c.loop-round.invariant.went in
    let r = c.in_ok-upcoming.ensures.goes in
    let t = c.in_ok-step-in-Some.ensures.goes in
    let made = c.in_ok-step-in-Some.step in
    let later = c.pass_one.new.replay in
    let before = follow_same _ _ _ c.loop-round.follows _ _ i.2 _ c.read.new.self.world i.4 c.in_ok-upcoming.ensures.world in
    record {
      went = (
        i.0 ++ (r.0 ++ t.0),
        gave_then _ _ _ _ _ _ i.0 (r.0 ++ t.0) i.1 (gave_then _ _ _ _ _ _ r.0 t.0 r.1 t.1),
        i.2 ++ sight later.world made ∷ [],
        λ fed begun.
            let h = i.3 fed begun in
            let u = subst (λ (o : Option Upcoming). ReadsNext ((fed ++ i.0) ++ r.0) (g.I.Source.words c.read.new.source).left h.0 h.1 (Ok o) c.read.new.self) c.in-Some.is (r.2 (fed ++ i.0) h.0 h.1 h.2.replaying) in
            let coming = coming_over (fed ++ i.0) ((fed ++ i.0) ++ r.0) h.0 h.1 i.2 _ c.in-Some.upcoming c.loop-round.replay c.read.new.self h.2 c.in_ok-upcoming.ensures.same u in
            let o = t.2 ((fed ++ i.0) ++ r.0) h.0 h.1 i.2 coming in (
              h.0 ++ o.entry ∷ [],
              h.1 ++ o.given ∷ [],
              subst (λ (bs : List ℕ). IsGoingOver bs (h.0 ++ o.entry ∷ []) (h.1 ++ o.given ∷ []) (i.2 ++ sight later.world made ∷ []) c.pass_one.new.tally later)
                  (append_assoc (fed ++ i.0) r.0 t.0 ∙ append_assoc fed i.0 (r.0 ++ t.0)) o.goes,
            ),
        follow_more _ _ _ c.loop-round.follows _ _ _ i.2 c.read.new.self.world later.world (sight later.world made) before c.in_ok-step-in-Some.ensures.count refl
            (λ j b d was is. c.in_ok-step-in-Some.ensures.along j b d was is),
      );
      same = c.in_ok-step-in-Some.ensures.same ∙ c.in_ok-upcoming.ensures.same ∙ c.loop-round.invariant.same;
      later = omega (arith, c.in_ok-step-in-Some.ensures.later, c.in_ok-upcoming.ensures.later, c.loop-round.invariant.later);
    }
