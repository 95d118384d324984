-- inside: what a watcher may have seen, whichever it is.
use Rattle.std.specs.Prelude.{List}
use Rattle.nv_watch.specs.Verdicts.{Sight}
use Rattle.nv_watch.specs.inside.Folded.{HasFolded as HasFoldedTexts}
use Rattle.nv_watch.specs.inside.GridsFolded.{HasFolded as HasFoldedGrids}
use Rattle.nv_watch.specs.inside.Checked.{HasChecked, IsCheckBehind}
use Rattle.nv_watch.specs.inside.Counts.{HasCounted}
use Rattle.nv_watch.specs.declared.any_watcher.AnyWatcher.{AnyWatcher}
use Rattle.nv_watch.specs.declared.any_watcher.AnyWatcher.TheVariants.{Buffers, Grids, Marks, Replies}

abbrev pub HasWatched : AnyWatcher → List Sight → Type 0
HasWatched (Buffers f) = HasFoldedTexts f
HasWatched (Grids f) = HasFoldedGrids f
HasWatched (Marks c) = HasChecked c
HasWatched (Replies c) = HasCounted c

-- and what it may still have to look at behind
abbrev pub IsAnyBehind : AnyWatcher → List Sight → Type 0
IsAnyBehind (Buffers f) = HasFoldedTexts f
IsAnyBehind (Grids f) = HasFoldedGrids f
IsAnyBehind (Marks c) = IsCheckBehind c
IsAnyBehind (Replies c) = HasCounted c
