use Rattle.std.proofs.Common.{◌≡◌, ◌∙◌, ℕ, List, [], ◌++◌, length, ap, refl, sym, subst}
use Rattle.std.proofs.lemmas.Option.{none-some}
use Rattle.nv_model.specs.declared.parts.Limits.{Limits}
use Rattle.nv_dispatch.specs.Runs.{usual_limits}
use Rattle.nv_core.specs.Contents.{plain_entries}
use Rattle.nv_book.specs.Reading.{IsWhyUnread}
use Rattle.nv_replay.specs.Ends.{CheckEnds}
use Rattle.nv_replay.specs.declared.ending.ReplayEnd.{ReplayEnd}
use Rattle.nv_replay.proofs.Closings.{check_unread}
use Rattle.nv_replay.proofs.Givings.{gave_then}
use Rattle.nv_replay.proofs.checking.check.Goals as goal

pub returns-in-Ok-clause-ends : goal.returns-in-Ok-clause-ends
returns-in-Ok-clause-ends g c =
    let b = c.in-Ok.ensures.begins in
    let e = c.check_replay.ensures.ends in (
      b.0 ++ e.0,
      gave_then _ _ _ _ _ _ b.0 e.0 b.1 e.1,
      e.2,
      e.3,
      subst (λ (l : Limits). CheckEnds l c.check_replay.result (b.0 ++ e.0) (g.I.Source.words c.check_replay.new.source).left (plain_entries c.args.kept.now.entries)
          (plain_entries c.check_replay.new.kept.entries) (g.S.Sink.words c.args.output.now).taken (g.S.Sink.words c.check_replay.new.output).taken (length c.args.watchers.now.items) e.2 e.3)
          (b.2.0 ∙ c.usual_limits.ensures) (e.4 b.0 b.2.1),
      e.5,
    )

pub returns-in-Err-clause-ends : goal.returns-in-Err-clause-ends
returns-in-Err-clause-ends g c =
    let b = c.in-Err.ensures.begins in
    let found = plain_entries c.args.kept.now.entries in
    let out = (g.S.Sink.words c.args.output.now).taken in
    let left = (g.I.Source.words c.open.new.source).left in (
      b.0,
      b.1,
      [],
      [],
      subst (λ (r : ReplayEnd). CheckEnds usual_limits r b.0 left found found out out (length c.args.watchers.now.items) [] []) (sym c.end_of_unread.ensures)
          (check_unread usual_limits b.0 left out out found found (length c.args.watchers.now.items) [] c.in-Err.fault refl refl
          (subst (λ (l : Limits). IsWhyUnread l b.0 left c.in-Err.fault) c.usual_limits.ensures b.2)),
      λ i w v before was is h. absurd (none-some v is),
    )
