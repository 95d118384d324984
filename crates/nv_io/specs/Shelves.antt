-- Devices in memory that give sources, sinks, connections or lanes, and take them back.
use Rattle.std.specs.Prelude.{ℕ, List}
use Rattle.nv_io.specs.Memory.{Failing, MemReading, MemWriting}
use Rattle.nv_io.specs.declared.lanes.Over.{Over}

-- What is to be given, in order; what came back, in order; and how many are out.
pub record Lending (G B : Type 0) : Type 0 where
  pub coming : List G
  pub back : List B
  pub out : ℕ

-- A lane in memory: its connections, and its calls of `accept` that fail.
pub record MemServing (I S : Type 0) : Type 0 where
  pub shelf : Lending (I × S) (Over I S)
  pub failures : Failing

-- A port in memory: its lanes, and its calls that fail.
pub record MemListening (I S : Type 0) : Type 0 where
  pub shelf : Lending (MemServing I S) (MemServing I S)
  pub failures : Failing

-- Files in memory: the sources, the sinks, and the calls that fail.
pub record MemNaming : Type 0 where
  pub sources : Lending MemReading MemReading
  pub sinks : Lending MemWriting MemWriting
  pub failures : Failing

-- Connections in memory that are dialed, and the calls of `dial` that fail.
pub record MemDialing (I S : Type 0) : Type 0 where
  pub shelf : Lending (I × S) (I × S)
  pub failures : Failing
