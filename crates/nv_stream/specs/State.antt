-- What a stream is in contracts: its bounds, and what was fed and not yet given. Streams in pieces
-- are an own rule throughout.
use Rattle.std.specs.Prelude.{ℕ, ◌+◌, List, [], ◌∷◌, ◌++◌, Option, Some, None}
use Rattle.std.specs.Option.{option_or}
use Rattle.nv_io.specs.declared.lanes.Flaw.{Flaw}
use Rattle.nv_io.specs.declared.lanes.Flaw.TheVariants.{Inside}

pub record State : Type 0 where
  -- at most so many lists and maps one in another
  pub depth : ℕ
  -- at most so many bytes in one value
  pub most : ℕ
  -- how many bytes the values given so far took: the place in the stream of the first byte held
  pub start : ℕ
  -- what was fed and not yet given
  pub held : List ℕ
  -- the flaw that was met
  pub flaw : Option Flaw

-- Nothing was fed.
abbrev pub empty_state : ℕ → ℕ → State
empty_state depth most = record { depth = depth; most = most; start = 0; held = []; flaw = None }

-- A piece comes behind what is held.
abbrev pub with_piece : State → List ℕ → State
with_piece s piece = record s { held = s.held ++ piece }

-- A value of so many bytes was given, and this is still held.
abbrev pub behind_value : State → ℕ → List ℕ → State
behind_value s taken rest = record s { start = s.start + taken; held = rest }

-- A flaw was met.
abbrev pub with_flaw : State → Flaw → State
with_flaw s f = record s { flaw = Some f }

-- The end where no flaw was met: none where nothing is held, else inside the value that begins at
-- this byte.
abbrev pub end_at : ℕ → List ℕ → Option Flaw
end_at start [] = None
end_at start (x ∷ held) = Some (Inside start)

-- How a stream ends that gets no further piece: with the flaw that was met, or inside a value, or
-- between values.
abbrev pub stream_end : State → Option Flaw
stream_end s = option_or s.flaw (end_at s.start s.held)
