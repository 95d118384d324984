-- What a closure captures that goes to another thread: the half that reads, and the one that writes.
use mathlib.Core.List.{[], ◌∷◌}
use mir.Syntax.{Sym, Lifetime}
use base.Fml.{Lft}
use denote.RattleType.{RattleType}
use denote.Ref.{ShrRef}
use denote.Slice.{ShrSlice}
use denote.Struct.Field.{row_field, u64-field}
use denote.Struct.Tuple.{TupleAt, type_at}
use denote.Param.Send.{IsSend, sendable, shr_send, shr_slice_send}
use denote.Param.SendFields.{declared_send, as_row_send}
use Rattle.std.proofs.alloc.Global.TheSendSync as heap
use Rattle.std.specs.contracts.alloc.Global as heap_row
use Rattle.std.proofs.sync.atomic.AtomicBool.TheSendSync as flag
use Rattle.std.specs.contracts.sync.atomic.AtomicBool as flag_row
use Rattle.nv_turn.specs.contracts.turn.Turn as turn_row
use Rattle.nv_turn.specs.contracts.pass.Pass as pass_row
use Rattle.nv_core.specs.contracts.entry.Entry as entry_row
use Rattle.nv_core.specs.contracts.start.Start as start_row
use Rattle.nv_core.proofs.Crossing.{crossing_core}
use Rattle.nv_halves.specs.contracts.bells.Bell as bell_row
use Rattle.nv_halves.proofs.bells.Bell.TheSendSync as bell
use Rattle.nv_halves.specs.contracts.reader.ReaderHalf as half
use Rattle.nv_halves.specs.contracts.writer.WriterHalf as writer
use Rattle.nv_halves.proofs.ends.ReaderEnd.TheSendSync as end
use Rattle.nv_halves.proofs.ends.WriterEnd.TheSendSync as writer_end

-- what such a half gives back
pub half_sends : (C I : RattleType) (g : _) → IsSend C → IsSend I → IsSend (half.the_row C I g)
half_sends C I g c s = search (crossing_core, end.the_field_send) depth 20

pub writer_sends : (C S : RattleType) (g : _) → IsSend C → IsSend S → IsSend (writer.the_row C S g)
writer_sends C S g c s = search (crossing_core, writer_end.the_field_send) depth 20

-- seven captures that may go to another thread
pub seven_send : {ν : Sym} {A B C D E F G : RattleType} → IsSend A → IsSend B → IsSend C → IsSend D → IsSend E → IsSend F → IsSend G
    → IsSend (TupleAt ν (A ∷ B ∷ C ∷ D ∷ E ∷ F ∷ G ∷ []))
seven_send {ν} {A} {B} {C} {D} {E} {F} {G} a b c d e f g = declared_send (type_at ν (A ∷ B ∷ C ∷ D ∷ E ∷ F ∷ G ∷ []))
    (as_row_send (row_field A) a, (as_row_send (row_field B) b, (as_row_send (row_field C) c, (as_row_send (row_field D) d, (as_row_send (row_field E) e, (as_row_send (row_field F) f, (as_row_send (row_field G) g, tt)))))))

-- eight of them
pub eight_send : {ν : Sym} {A B C D E F G H : RattleType} → IsSend A → IsSend B → IsSend C → IsSend D → IsSend E → IsSend F → IsSend G → IsSend H
    → IsSend (TupleAt ν (A ∷ B ∷ C ∷ D ∷ E ∷ F ∷ G ∷ H ∷ []))
eight_send {ν} {A} {B} {C} {D} {E} {F} {G} {H} a b c d e f g h = declared_send (type_at ν (A ∷ B ∷ C ∷ D ∷ E ∷ F ∷ G ∷ H ∷ []))
    (as_row_send (row_field A) a, (as_row_send (row_field B) b, (as_row_send (row_field C) c, (as_row_send (row_field D) d, (as_row_send (row_field E) e, (as_row_send (row_field F) f, (as_row_send (row_field G) g, (as_row_send (row_field H) h, tt))))))))

-- and nine of them
pub nine_send : {ν : Sym} {A B C D E F G H I : RattleType} → IsSend A → IsSend B → IsSend C → IsSend D → IsSend E → IsSend F → IsSend G → IsSend H → IsSend I
    → IsSend (TupleAt ν (A ∷ B ∷ C ∷ D ∷ E ∷ F ∷ G ∷ H ∷ I ∷ []))
nine_send {ν} {A} {B} {C} {D} {E} {F} {G} {H} {I} a b c d e f g h i = declared_send (type_at ν (A ∷ B ∷ C ∷ D ∷ E ∷ F ∷ G ∷ H ∷ I ∷ []))
    (as_row_send (row_field A) a, (as_row_send (row_field B) b, (as_row_send (row_field C) c, (as_row_send (row_field D) d, (as_row_send (row_field E) e, (as_row_send (row_field F) f, (as_row_send (row_field G) g, (as_row_send (row_field H) h, (as_row_send (row_field I) i, tt)))))))))

-- one for each: the allocator, lent and not, the turn, the bells, the pass, the number of the session,
-- and the flag
pub heap_sends : {ℓ : Lifetime} {κ : Lft} → IsSend (ShrRef ℓ κ heap_row.the_row)
heap_sends {ℓ} {κ} = shr_send ℓ κ heap_row.the_row heap.the_sync

pub number_sends : {ℓ : Lifetime} {κ : Lft} → IsSend (ShrRef ℓ κ u64-field.row)
number_sends {ℓ} {κ} = search sendable

pub own_heap_sends : IsSend heap_row.the_row
own_heap_sends = heap.the_send

pub own_number_sends : IsSend u64-field.row
own_number_sends = search sendable

pub flag_sends : {ℓ : Lifetime} {κ : Lft} → IsSend (ShrRef ℓ κ flag_row.the_row)
flag_sends {ℓ} {κ} = shr_send ℓ κ flag_row.the_row flag.the_sync

pub turn_sends : {ℓ : Lifetime} {κ : Lft} (C : RattleType) (g : _) → IsSend C → IsSend (ShrRef ℓ κ (turn_row.the_row C entry_row.the_row start_row.the_row g))
turn_sends {ℓ} {κ} C g c = search crossing_core depth 20

pub bells_send : {ℓ : Lifetime} {κ : Lft} → IsSend (ShrSlice ℓ κ bell_row.the_row)
bells_send {ℓ} {κ} = shr_slice_send ℓ κ bell_row.the_row bell.the_sync

pub pass_sends : (C : RattleType) (g : _) → IsSend C → IsSend (pass_row.the_row C entry_row.the_row start_row.the_row g)
pass_sends C g c = search crossing_core depth 20
