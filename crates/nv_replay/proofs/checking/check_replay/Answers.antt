use Rattle.std.proofs.Common.{◌≡◌, ◌∙◌, ℕ, List, [], ◌++◌, length, slice_get, Some, ap, refl, sym, subst}
use Rattle.std.proofs.lemmas.Option.{none-some}
use Rattle.nv_model.specs.declared.parts.Limits.{Limits}
use Rattle.nv_core.specs.Contents.{plain_entries}
use Rattle.nv_core.specs.declared.start.Start.{Start}
use Rattle.nv_book.specs.Reading.{IsWhyUnread}
use Rattle.nv_replay.specs.Ends.{CheckEnds}
use Rattle.nv_replay.specs.inside.Endings.{Concludes, SaysNoFirst}
use Rattle.nv_replay.specs.declared.checking.GoneOver.{GoneOver}
use Rattle.nv_replay.specs.declared.ending.ReplayEnd.{ReplayEnd}
use Rattle.nv_replay.proofs.Closings.{check_ends, check_unread, tallied}
use Rattle.nv_replay.proofs.Verdicts.{said_by}
use Rattle.nv_replay.proofs.checking.check_replay.Goals as goal

pub returns-in-Ok-clause-ends : goal.returns-in-Ok-clause-ends
returns-in-Ok-clause-ends g c =
    let t = c.in-Ok.ensures.goes in
    let n = c.first_no-no.ensures in
    let limits = c.args.replay.start.limits in
    let count : ℕ = length c.args.watchers.now.items in
    let gone : GoneOver = record { history = c.into_history-history.result; tally = c.in-Ok.tally } in
    let same : c.deref.result.now ≡ c.go_over.new.watchers.items = c.deref.ensures.value in
    let many : length c.deref.result.now ≡ count = ap length same ∙ c.in-Ok.ensures.count in
    let says = subst (λ (k : ℕ). SaysNoFirst k n.0 c.first_no-no.result) many n.1 in (
      t.0,
      t.1,
      t.2,
      n.0,
      λ fed begun.
          check_ends limits (fed ++ t.0) _ t.2 gone
          (tallied limits (fed ++ t.0) _ t.2 c.in-Ok.tally c.go_over.new.replay gone (ap (λ (s : Start). s.limits) c.in-Ok.ensures.same) (t.3 fed begun) refl c.into_history-history.ensures.history)
          _ _ _ _ count n.0 c.conclude.result (c.conclude.ensures.concludes count n.0 says),
      said_by (λ w s. g.W.Watcher.HasSeen w s) (λ w. g.W.Watcher.Breaks w)
          c.args.watchers.now.items c.deref.result.now t.2 n.0 many
          (λ i a b before was is h. t.4 i a b before was (ap (λ xs. slice_get xs i) (sym same) ∙ is) h)
          (λ i a b before x was is. c.in-Ok.ensures.rule i a b before x was (ap (λ xs. slice_get xs i) (sym same) ∙ is))
          n.2,
    )

pub returns-in-Ok-clause-read : goal.returns-in-Ok-clause-read
returns-in-Ok-clause-read g c = λ e.
    let n = c.first_no-no.ensures in
    absurd (subst (λ (r : ReplayEnd). Concludes (record { history = c.into_history-history.result; tally = c.in-Ok.tally }) r (plain_entries c.args.kept.now.entries)
    (plain_entries c.conclude.new.kept.entries) (g.S.Sink.words c.args.output.now).taken (g.S.Sink.words c.conclude.new.output).taken (length c.deref.result.now) n.0)
    e (c.conclude.ensures.concludes (length c.deref.result.now) n.0 n.1))

pub returns-in-Err-clause-ends : goal.returns-in-Err-clause-ends
returns-in-Err-clause-ends g c =
    let t = c.in-Err.ensures.goes in
    let limits = c.args.replay.start.limits in
    let found = plain_entries c.args.kept.now.entries in
    let out = (g.S.Sink.words c.args.output.now).taken in
    let left = (g.I.Source.words c.go_over.new.source).left in (
      t.0,
      t.1,
      t.2,
      [],
      λ fed begun.
          subst (λ (r : ReplayEnd). CheckEnds limits r (fed ++ t.0) left found found out out (length c.args.watchers.now.items) t.2 []) (sym c.end_of_unread.ensures)
          (check_unread limits (fed ++ t.0) left out out found found (length c.args.watchers.now.items) t.2 c.in-Err.fault refl refl
          (subst (λ (l : Limits). IsWhyUnread l (fed ++ t.0) left c.in-Err.fault) (ap (λ (s : Start). s.limits) c.in-Err.ensures.same) (t.3 fed begun))),
      λ i w v before was is h. absurd (none-some v is),
    )
