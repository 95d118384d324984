use Rattle.std.proofs.Common.{◌≡◌, ◌∙◌, Bool, [], Err, ap, refl, sym, subst, slice_get, Some}
use Rattle.std.proofs.lemmas.Result.{err_from_is_err_and}
use Rattle.nv_book.specs.declared.faults.Unread.{Unread}
use Rattle.nv_book.specs.declared.faults.Unread.TheVariants.{NoMemory}
use Rattle.nv_core.specs.Contents.{plain_event}
use Rattle.nv_world.specs.Worlds.{WorldRecord}
use Rattle.nv_watch.specs.Verdicts.{sight}
use Rattle.nv_replay.specs.inside.Quiet.{may_splice}
use Rattle.nv_replay.specs.inside.Watching.{HasLookedOn, IsPrepared}
use Rattle.nv_replay.proofs.Givings.{gave_none}
use Rattle.nv_replay.proofs.Seeing.{unread_one}
use Rattle.nv_replay.proofs.Following.{along, middle}
use Rattle.nv_replay.proofs.checking.pass_one.Goals as goal

pub returns-in_err-prepare-clause-goes : goal.returns-in_err-prepare-clause-goes
returns-in_err-prepare-clause-goes g c =
    let p = err_from_is_err_and c.from_residual.result c.from_residual.ensures.1 in
    let is : c.from_residual.result ≡ Err NoMemory = p.1 ∙ ap (λ (u : Unread). Err u) p.2 in (
      [],
      gave_none _ _,
      λ fed records played seen coming. unread_one _ _ records played seen _ _ _ _ is tt,
    )

pub returns-in_err-step-clause-goes : goal.returns-in_err-step-clause-goes
returns-in_err-step-clause-goes g c =
    let t = c.in_err-step.ensures.goes in
    let p = err_from_is_err_and c.from_residual-in_err-step.result c.from_residual-in_err-step.ensures.1 in
    let is : c.from_residual-in_err-step.result ≡ Err c.in_err-step.field-0.0 = p.1 ∙ ap (λ (u : Unread). Err u) p.2 in (
      t.0,
      t.1,
      λ fed records played seen coming. unread_one _ _ records played seen _ _ _ _ is (t.2 fed records played seen coming),
    )

pub returns-in_err-watch-clause-goes : goal.returns-in_err-watch-clause-goes
returns-in_err-watch-clause-goes g c =
    let t = c.in_ok-step.ensures.goes in
    let p = err_from_is_err_and c.from_residual-in_err-watch.result c.from_residual-in_err-watch.ensures.1 in
    let is : c.from_residual-in_err-watch.result ≡ Err NoMemory = p.1 ∙ ap (λ (u : Unread). Err u) p.2 in (
      t.0,
      t.1,
      λ fed records played seen coming. unread_one _ _ records played seen _ _ _ _ is tt,
    )

pub returns-clause-along : goal.returns-clause-along
returns-clause-along g c = λ i old new was is.
    let k = c.args.replay.now.world in
    let loud : Bool = may_splice (plain_event c.args.upcoming.heading.entry.event) in
    let later = c.compare_next.new.replay.world in
    let mid = middle c.args.watchers.now.items c.prepare.new.watchers.items i old c.in_ok-prepare.ensures.count was in
    let m = mid.0 in
    let prepared =
    subst (λ (w : WorldRecord). IsPrepared loud w (g.W.Watcher.HasSeen old) (g.W.Watcher.IsBehind old) (g.W.Watcher.HasSeen m) (g.W.Watcher.IsBehind m) (g.W.Watcher.Breaks old) (g.W.Watcher.Breaks m)) c.world.ensures
    (c.in_ok-prepare.ensures.prepared i old m was mid.1) in
    let watched =
    subst (λ (w : WorldRecord). HasLookedOn c.args.follows (sight w c.in_ok-step.step) (g.W.Watcher.HasSeen m) (g.W.Watcher.IsBehind m) (g.W.Watcher.HasSeen new) (g.W.Watcher.IsBehind new) (g.W.Watcher.Breaks m) (g.W.Watcher.Breaks new)) c.world-2.ensures
    (c.in_ok-watch.ensures.watches i m new mid.1 is) in
    along c.args.follows loud k later c.args.upcoming.heading.entry c.in_ok-step.step (g.W.Watcher.HasSeen old) (g.W.Watcher.IsBehind old) (g.W.Watcher.HasSeen m) (g.W.Watcher.IsBehind m)
    (g.W.Watcher.HasSeen new) (g.W.Watcher.IsBehind new) (g.W.Watcher.Breaks old) (g.W.Watcher.Breaks m) (g.W.Watcher.Breaks new) refl c.in_ok-step.ensures.enters prepared watched

pub returns-clause-goes : goal.returns-clause-goes
returns-clause-goes g c = c.in_ok-step.ensures.goes

pub returns-clause-count : goal.returns-clause-count
returns-clause-count g c = c.in_ok-watch.ensures.count ∙ c.in_ok-prepare.ensures.count
