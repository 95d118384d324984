-- What goes to the threads of lanes: a lane with its passes, and what their closure looks at.
use mathlib.Core.List.{[], ◌∷◌}
use mir.Syntax.{Sym, Lifetime}
use base.Fml.{Lft}
use denote.RattleType.{RattleType}
use denote.Ref.{ShrRef}
use denote.Slice.{ShrSlice}
use denote.Struct.Field.{row_field}
use denote.Struct.Tuple.{TupleAt, type_at}
use denote.Param.Send.{IsSend, IsSync, shr_sync, shr_slice_sync}
use denote.Param.SendFields.{declared_sync, as_row_sync}
use Rattle.std.proofs.alloc.Global.TheSendSync as heap
use Rattle.std.specs.contracts.alloc.Global as heap_row
use Rattle.nv_turn.specs.contracts.turn.Turn as turn_row
use Rattle.nv_core.specs.contracts.entry.Entry as entry_row
use Rattle.nv_core.specs.contracts.start.Start as start_row
use Rattle.nv_core.proofs.Crossing.{crossing_core}
use Rattle.nv_halves.specs.contracts.bells.Bell as bell_row
use Rattle.nv_halves.proofs.bells.Bell.TheSendSync as bell
use Rattle.nv_serve.specs.contracts.job.Job as job

pub job_sends : (C L : RattleType) (g : _) → IsSend C → IsSend L → IsSend (job.the_row C L g)
job_sends C L g c s = search crossing_core depth 20

-- four captures that threads may share
pub four_sync : {ν : Sym} {A B C D : RattleType} → IsSync A → IsSync B → IsSync C → IsSync D → IsSync (TupleAt ν (A ∷ B ∷ C ∷ D ∷ []))
four_sync {ν} {A} {B} {C} {D} a b c d = declared_sync (type_at ν (A ∷ B ∷ C ∷ D ∷ [])) (as_row_sync (row_field A) a, (as_row_sync (row_field B) b, (as_row_sync (row_field C) c, (as_row_sync (row_field D) d, tt))))

-- one for each: the allocator, the turn, the bells
pub heap_syncs : {ℓ : Lifetime} {κ : Lft} → IsSync (ShrRef ℓ κ heap_row.the_row)
heap_syncs {ℓ} {κ} = shr_sync ℓ κ heap_row.the_row heap.the_sync

pub turn_syncs : {ℓ : Lifetime} {κ : Lft} (C : RattleType) (g : _) → IsSend C → IsSync (ShrRef ℓ κ (turn_row.the_row C entry_row.the_row start_row.the_row g))
turn_syncs {ℓ} {κ} C g c = search crossing_core depth 20

pub bells_sync : {ℓ : Lifetime} {κ : Lft} → IsSync (ShrSlice ℓ κ bell_row.the_row)
bells_sync {ℓ} {κ} = shr_slice_sync ℓ κ bell_row.the_row bell.the_sync
