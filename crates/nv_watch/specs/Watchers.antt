-- The rule of a watcher, whichever it is.
use Rattle.nv_watch.specs.Verdicts.{Rule}
use Rattle.nv_watch.specs.Folding.{IsFoldedWrong}
use Rattle.nv_watch.specs.Grids.{ShowsWrong}
use Rattle.nv_watch.specs.MarkRule.{IsMarkMisplaced}
use Rattle.nv_watch.specs.Counting.{HasReplyTooMany}
use Rattle.nv_watch.specs.declared.any_watcher.AnyWatcher.{AnyWatcher}
use Rattle.nv_watch.specs.declared.any_watcher.AnyWatcher.TheVariants.{Buffers, Grids, Marks, Replies}

abbrev pub rule_of : AnyWatcher → Rule
rule_of (Buffers f) = IsFoldedWrong
rule_of (Grids f) = ShowsWrong
rule_of (Marks c) = IsMarkMisplaced
rule_of (Replies c) = HasReplyTooMany
