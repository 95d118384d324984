-- inside: an intake at every moment.
use Rattle.std.specs.Prelude.{◌≡◌, ℕ, ◌+◌, ◌^◌, ◌≤◌, length}
use Rattle.nv_stream.specs.State.{State}
use Rattle.nv_calls.specs.Reading.{most_depth, most_bytes}
use Rattle.nv_calls.specs.Intakes.{IntakeState}

-- the intake that has this stream and has given so many calls
abbrev pub intake_of : State → ℕ → IntakeState
intake_of s n = record { place = s.start; number = n; held = s.held; flaw = s.flaw }

-- its stream has the bounds of a message, each call that it gave had a byte, and of bytes that
-- count no more came than the most and a piece
abbrev pub IsBounded : State → ℕ → Type 0
IsBounded s n =
    (s.depth ≡ most_depth) × (s.most ≡ most_bytes) × (n ≤ s.start)
    × (s.start + length s.held ≤ 2 ^ 62 + 65536)
