-- inside: how a server ends whose book may not have been written.
use Rattle.std.specs.Prelude.{◌≡◌, ◌⊎◌}
use Rattle.nv_replay.specs.declared.ending.WriteEnd.{WriteEnd}
use Rattle.nv_replay.specs.declared.ending.WriteEnd.TheVariants as write
use Rattle.nv_run.specs.declared.serving.ServerEnd.{ServerEnd}
use Rattle.nv_run.specs.declared.serving.ServerEnd.TheVariants.{Done, NoMemory, WriteFault}

-- it ended as its lanes did, or for want of memory, or for the book's fault alone
abbrev pub IsLater : ServerEnd → ServerEnd → Type 0
IsLater ended later =
    (later ≡ ended) ⊎ (later ≡ NoMemory) ⊎ ((ended ≡ Done) × (later ≡ WriteFault))

-- a book that was written changes nothing, want of memory is told whatever else there is, and a
-- fault is told unless another end is
abbrev pub IsEndOfBook : WriteEnd → ServerEnd → ServerEnd → Type 0
IsEndOfBook write.Done ended later = later ≡ ended
IsEndOfBook write.NoMemory ended later = later ≡ NoMemory
IsEndOfBook write.WriteFault ended later = later ≡ Done → ⊥
