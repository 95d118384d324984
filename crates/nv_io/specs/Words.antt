-- The words of devices: what each tells of itself, where it tells it. A count of faults is always
-- told.
use Rattle.std.specs.Prelude.{ℕ, List}
use Rattle.std.specs.declared.option.Option.{Option}
use Rattle.nv_io.specs.declared.lanes.Over.{Over}

-- Of a source: the bytes that were taken, those that are left, what each read gave in order
-- (nothing where it found the end or failed), and its faults.
pub record SourceWords : Type 0 where
  pub taken : Option (List ℕ)
  pub left : Option (List ℕ)
  pub reads : Option (List (List ℕ))
  pub faults : ℕ

-- Of a sink: the bytes that were taken, and its faults.
pub record SinkWords : Type 0 where
  pub taken : Option (List ℕ)
  pub faults : ℕ

-- Of a lane: the connections to come and those that ended, in order, how many were given and
-- didn't end yet, and its faults.
pub record LaneWords (I S : Type 0) : Type 0 where
  pub coming : Option (List (I × S))
  pub over : Option (List (Over I S))
  pub lent : Option ℕ
  pub faults : ℕ

-- Of a port: the lanes that came back, in order, how many were given and aren't back, and its
-- faults.
pub record PortWords (L : Type 0) : Type 0 where
  pub returned : Option (List L)
  pub lent : Option ℕ
  pub faults : ℕ

-- Of files: the sources and the sinks that came back, in order, how many of each were given and
-- aren't back, and their faults.
pub record FilesWords (I S : Type 0) : Type 0 where
  pub returned_sources : Option (List I)
  pub returned_sinks : Option (List S)
  pub lent_sources : Option ℕ
  pub lent_sinks : Option ℕ
  pub faults : ℕ

-- Of a dial: the halves of connections that came back, in order, how many connections were given
-- and aren't back, and its faults.
pub record DialWords (I S : Type 0) : Type 0 where
  pub returned : Option (List (I × S))
  pub lent : Option ℕ
  pub faults : ℕ

-- the words of the two halves of a connection
pub record HalvesWords (I S : Type 0) : Type 0 where
  pub input : I → SourceWords
  pub output : S → SinkWords

-- and those of lanes of one kind, with the halves of their connections
pub record LaneKind (L I S : Type 0) : Type 0 where
  pub halves : HalvesWords I S
  pub lane : L → LaneWords I S
