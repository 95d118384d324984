use Rattle.std.proofs.Common.{◌≡◌, ◌∙◌, Bool, true, false, sym, subst, subst₂}
use Rattle.std.proofs.lemmas.Option.{same_Some}
use Rattle.nv_core.specs.Contents.{plain_event}
use Rattle.nv_replay.specs.inside.Quiet.{may_splice}
use Rattle.nv_replay.specs.inside.Watching.{IsPrepared}
use Rattle.nv_replay.proofs.Following.{prepared_by, unprepared}
use Rattle.nv_replay.proofs.watching.prepare.Goals as goal

pub returns-then-not-may_splice-clause-prepared : goal.returns-then-not-may_splice-clause-prepared
returns-then-not-may_splice-clause-prepared g c = λ i old new was is.
    let k = c.args.world.now in
    let quiet : may_splice (plain_event c.args.event.now) ≡ false = sym c.may_splice.ensures ∙ c.if-not-may_splice.true in
    let same : old ≡ new = same_Some old new (sym was ∙ is) in
    subst (λ w. IsPrepared (may_splice (plain_event c.args.event.now)) k (g.W.Watcher.HasSeen old) (g.W.Watcher.IsBehind old) (g.W.Watcher.HasSeen w) (g.W.Watcher.IsBehind w) (g.W.Watcher.Breaks old) (g.W.Watcher.Breaks w)) same
    (subst (λ (b : Bool). IsPrepared b k (g.W.Watcher.HasSeen old) (g.W.Watcher.IsBehind old) (g.W.Watcher.HasSeen old) (g.W.Watcher.IsBehind old) (g.W.Watcher.Breaks old) (g.W.Watcher.Breaks old)) (sym quiet)
    (unprepared k (g.W.Watcher.HasSeen old) (g.W.Watcher.IsBehind old) (g.W.Watcher.Breaks old)))

pub returns-clause-prepared : goal.returns-clause-prepared
returns-clause-prepared g c = λ i old new was is.
    let k = c.args.world.now in
    let loud : may_splice (plain_event c.args.event.now) ≡ true = sym c.may_splice.ensures ∙ c.if-not-may_splice.false in
    subst (λ (b : Bool). IsPrepared b k (g.W.Watcher.HasSeen old) (g.W.Watcher.IsBehind old) (g.W.Watcher.HasSeen new) (g.W.Watcher.IsBehind new) (g.W.Watcher.Breaks old) (g.W.Watcher.Breaks new)) (sym loud)
    (prepared_by k (g.W.Watcher.HasSeen old) (g.W.Watcher.IsBehind old) (g.W.Watcher.HasSeen new) (g.W.Watcher.IsBehind new) (g.W.Watcher.Breaks old) (g.W.Watcher.Breaks new)
    (c.in_ok-catch_up.ensures.caught i old new was is))
