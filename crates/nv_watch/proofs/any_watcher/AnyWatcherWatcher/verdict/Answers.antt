use Rattle.std.proofs.Common.{subst, sym}
use Rattle.nv_watch.specs.Verdicts.{IsVerdict}
use Rattle.nv_watch.specs.Watchers.{rule_of}
use Rattle.nv_watch.specs.inside.Watched.{HasWatched}
use Rattle.nv_watch.specs.declared.any_watcher.AnyWatcher.{AnyWatcher}
use Rattle.nv_watch.proofs.any_watcher.AnyWatcherWatcher.verdict.Goals as goal

pub returns-in-Buffers : goal.returns-in-Buffers
returns-in-Buffers c = λ seen h. subst (λ (w : AnyWatcher). IsVerdict (rule_of w) seen c.verdict.result) (sym c.in-Buffers.is) (c.verdict.ensures seen (subst (λ (w : AnyWatcher). HasWatched w seen) c.in-Buffers.is h))

pub returns-in-Grids : goal.returns-in-Grids
returns-in-Grids c = λ seen h. subst (λ (w : AnyWatcher). IsVerdict (rule_of w) seen c.verdict-in-Grids.result) (sym c.in-Grids.is) (c.verdict-in-Grids.ensures seen (subst (λ (w : AnyWatcher). HasWatched w seen) c.in-Grids.is h))

pub returns-in-Marks : goal.returns-in-Marks
returns-in-Marks c = λ seen h. subst (λ (w : AnyWatcher). IsVerdict (rule_of w) seen c.verdict-in-Marks.result) (sym c.in-Marks.is) (c.verdict-in-Marks.ensures seen (subst (λ (w : AnyWatcher). HasWatched w seen) c.in-Marks.is h))

pub returns-in-Replies : goal.returns-in-Replies
returns-in-Replies c = λ seen h. subst (λ (w : AnyWatcher). IsVerdict (rule_of w) seen c.verdict-in-Replies.result) (sym c.in-Replies.is) (c.verdict-in-Replies.ensures seen (subst (λ (w : AnyWatcher). HasWatched w seen) c.in-Replies.is h))
