-- Which batches MessagePack can spell.
use Rattle.std.specs.Prelude.{ℕ, suc, ◌^◌, ◌<◌, List, length}
use Rattle.std.specs.List.{AllByRecursion}
use Rattle.nv_linegrid.specs.declared.event.Run.{Run}
use Rattle.nv_linegrid.specs.declared.event.Run.TheVariants.{Same, One, Times}
use Rattle.nv_linegrid.specs.declared.event.Redraw.{Redraw}
use Rattle.nv_linegrid.specs.declared.event.Redraw.TheVariants.{LineOf}

-- the text of a run's cells
abbrev pub run_text : Run → List ℕ
run_text (Same bytes) = bytes
run_text (One bytes id) = bytes
run_text (Times bytes id n) = bytes

abbrev pub IsSpellableRun : Run → Type 0
IsSpellableRun r = length (run_text r) < 2 ^ 32

abbrev pub IsSpellableEvent : Redraw → Type 0
IsSpellableEvent (LineOf grid row col cells) =
    (length cells < 2 ^ 32) × AllByRecursion IsSpellableRun cells
IsSpellableEvent _ = Unit {0}

-- each length in it is below 2 ^ 32
abbrev pub IsSpellableBatch : List Redraw → Type 0
IsSpellableBatch es = (suc (length es) < 2 ^ 32) × AllByRecursion IsSpellableEvent es
