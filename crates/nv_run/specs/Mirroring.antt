-- What following a buffer of a server left of the devices.
use Rattle.std.specs.Prelude.{◌≡◌, ℕ, ℤ, List, [], ◌∷◌, Option}
use Rattle.std.specs.Io.KnownBytes.{append_known}
use Rattle.std.specs.List.{concat}
use Rattle.nv_io.specs.Faults.{Rose}
use Rattle.nv_io.specs.Known.{append_items, IsUnused}
use Rattle.nv_io.specs.Streams.{GaveEach}
use Rattle.nv_io.specs.Words.{DialWords, HalvesWords}
use Rattle.nv_mirror.specs.Ends.{FollowsTo, IsReadToEnd, ListsAtOnce, ServerTook}
use Rattle.nv_mirror.specs.declared.followed.Followed.{Followed}
use Rattle.nv_mirror.specs.declared.followed.Followed.TheVariants.{ReadFault, ServerFault, OutputFault}
use Rattle.nv_run.specs.declared.mirroring.FollowEnd.{FollowEnd}
use Rattle.nv_run.specs.declared.mirroring.FollowEnd.TheVariants.{NoMemory, Unconnected, Connected}

-- A client followed a buffer over a connection that was given unused, to this end, and the halves
-- came back as they then were. The output took what it listed.
pub record HasFollowed {I S : Type 0} (w : HalvesWords I S) (buffer : ℤ) (followed : Followed)
    (back : I × S) (output_before output_after : Option (List ℕ)) : Type 0 where
  pub given : I × S
  pub unused : IsUnused (w.input given.0).taken (w.input given.0).faults
      × IsUnused (w.output given.1).taken (w.output given.1).faults
  pub pieces : List (List ℕ)
  pub listed : List ℕ
  pub gave : GaveEach (w.input given.0)
      (w.input back.0) pieces
  pub wrote : output_after ≡ append_known output_before listed
  pub ends : FollowsTo (IsReadToEnd (w.input back.0).left (concat pieces)) buffer followed
      (concat pieces)
      listed
  pub at_once : ListsAtOnce buffer pieces listed
  pub asks : ServerTook buffer followed (w.output given.1).taken (w.output back.1).taken
  pub read : followed ≡ ReadFault → Rose (w.input given.0).faults (w.input back.0).faults
  pub ask : followed ≡ ServerFault → Rose (w.output given.1).faults (w.output back.1).faults

-- What came back, and what the output took: nothing where no connection was made, for a fault or
-- for want of memory.
abbrev pub LeavesDial : {I S : Type 0} → HalvesWords I S → ℤ → FollowEnd → DialWords I S
    → DialWords I S → Option (List ℕ) → Option (List ℕ) → Type 0
LeavesDial w buffer NoMemory before after output_before output_after =
    (after.returned ≡ before.returned) × (output_after ≡ output_before)
LeavesDial w buffer Unconnected before after output_before output_after =
    Rose before.faults after.faults × (after.returned ≡ before.returned)
    × (output_after ≡ output_before)
LeavesDial {I} {S} w buffer (Connected followed) before after output_before output_after =
    (back : I × S) × (after.returned ≡ append_items before.returned (back ∷ []))
    × HasFollowed w buffer followed back output_before output_after
