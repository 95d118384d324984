use Rattle.std.proofs.Common.{Bool, ◌++◌, ◌≡◌, ◌∙◌, ap, subst, arith}
use Rattle.std.specs.Prelude.{Ok}
use Rattle.std.proofs.lemmas.Result.{err_from_is_err_and}
use Rattle.nv_model.specs.declared.parts.Limits.{Limits}
use Rattle.nv_core.specs.declared.start.Start.{Start}
use Rattle.nv_book.specs.Reading.{IsWhyUnread}
use Rattle.nv_book.specs.inside.Entering.{Advances}
use Rattle.nv_book.proofs.Standing.{gave_then}
use Rattle.nv_book.proofs.Entering.{book_read}
use Rattle.nv_book.proofs.replay.read_book.Goals as goal

pub returns-in_err-advance-clause-reads : goal.returns-in_err-advance-clause-reads
returns-in_err-advance-clause-reads g c =
    let i = c.loop-replay.invariant.replays in
    let n = c.in_err-advance.ensures.goes in
    let e = err_from_is_err_and c.from_residual-in_err-advance.result c.from_residual-in_err-advance.ensures.1 in
    let same = ap (λ (x : Start). x.limits) c.in_err-advance.ensures.same ∙ c.loop-replay.invariant.limits in (
      i.0 ++ n.0,
      gave_then _ _ _ _ _ _ i.0 n.0 i.1 n.1,
      rw (e.1, e.2) (subst (λ (x : Limits). IsWhyUnread x (i.0 ++ n.0) (g.S.Source.words c.advance.new.source).left c.in_err-advance.field-0.0) same (n.2 i.0 i.2.0 i.2.1 i.2.2)),
    )

pub loop-replay-preserved : goal.loop-replay-preserved
loop-replay-preserved g c =
    let i = c.loop-replay.invariant.replays in
    let n = c.in_ok-advance.ensures.goes in
    let more = subst (λ (b : Bool). Advances (i.0 ++ n.0) (g.S.Source.words c.advance.new.source).left (Ok b) c.advance.new.self) c.if-branch.true (n.2 i.0 i.2.0 i.2.1 i.2.2) in
    record {
      replays = (i.0 ++ n.0, gave_then _ _ _ _ _ _ i.0 n.0 i.1 n.1, more);
      limits = ap (λ (x : Start). x.limits) c.in_ok-advance.ensures.same ∙ c.loop-replay.invariant.limits;
      later = omega (arith, c.in_ok-advance.ensures.later, c.loop-replay.invariant.later);
    }

pub returns-clause-reads : goal.returns-clause-reads
returns-clause-reads g c =
    let i = c.loop-replay.invariant.replays in
    let n = c.in_ok-advance.ensures.goes in
    let all = subst (λ (b : Bool). Advances (i.0 ++ n.0) (g.S.Source.words c.advance.new.source).left (Ok b) c.advance.new.self) c.if-branch.false (n.2 i.0 i.2.0 i.2.1 i.2.2) in
    let same = ap (λ (x : Start). x.limits) c.in_ok-advance.ensures.same ∙ c.loop-replay.invariant.limits in (
      i.0 ++ n.0,
      gave_then _ _ _ _ _ _ i.0 n.0 i.1 n.1,
      book_read c.args.limits (i.0 ++ n.0) _ all.0 all.1 c.advance.new.self (record { start = c.start.result; history = c.into_history.result }) all.2 same c.start.ensures.start c.into_history.ensures.history,
    )
