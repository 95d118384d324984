-- How a connection ends, by how its two halves ended (own rule): the first that holds of want of
-- memory, an overflow, the end of the world, a fault of writing, and how the bytes that were read
-- ended.
use Rattle.nv_io.specs.declared.lanes.Ended.{Ended}
use Rattle.nv_io.specs.declared.lanes.Ended.TheVariants.{Closed, Malformed, Overflowed, ReadFault, WriteFault, Quit, NoMemory}
use Rattle.nv_core.specs.declared.effect.Cause.{Cause}
use Rattle.nv_core.specs.declared.effect.Cause.TheVariants as cause
use Rattle.nv_halves.specs.declared.ends.ReaderEnd.{ReaderEnd}
use Rattle.nv_halves.specs.declared.ends.ReaderEnd.TheVariants as r
use Rattle.nv_halves.specs.declared.ends.WriterEnd.{WriterEnd}
use Rattle.nv_halves.specs.declared.ends.WriterEnd.TheVariants as w

-- an overflow or the end of the world, where that closed the session, and else this
abbrev pub end_by_cause : Cause → Ended → Ended
end_by_cause (cause.Closed entry) other = other
end_by_cause (cause.Overflowed entry) other = Overflowed entry
end_by_cause (cause.Quit entry) other = Quit entry

-- the end of a connection beside whose reader, which would end it so, a writer ended
abbrev pub end_beside : Ended → WriterEnd → Ended
end_beside by_reader (w.Over cause) = end_by_cause cause by_reader
end_beside by_reader w.WriteFault = WriteFault
end_beside by_reader w.NoMemory = NoMemory

-- the end of a connection whose reader found its session closed by another: a writer that closes
-- its session has failed, or memory was wanting to it
abbrev pub end_beside_gone : Cause → WriterEnd → Ended
end_beside_gone gone (w.Over cause) = end_by_cause gone (end_by_cause cause NoMemory)
end_beside_gone gone w.WriteFault = end_by_cause gone WriteFault
end_beside_gone gone w.NoMemory = NoMemory

-- the end of a connection, by those of its halves
abbrev pub end_of_halves : ReaderEnd → WriterEnd → Ended
end_of_halves r.Closed writer = end_beside Closed writer
end_of_halves (r.Malformed flaw) writer = end_beside (Malformed flaw) writer
end_of_halves r.ReadFault writer = end_beside ReadFault writer
end_of_halves (r.Gone gone) writer = end_beside_gone gone writer
end_of_halves r.NoMemory writer = NoMemory
