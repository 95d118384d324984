-- inside: bytes on their way to a sink.
use Rattle.std.specs.Prelude.{◌≡◌, ℕ, ◌≤◌, List, ◌++◌, length, take, Option}
use Rattle.std.specs.Io.KnownBytes.{append_known}

-- of these bytes a front went out, and the rest waits
abbrev pub IsBuffered : List ℕ → Option (List ℕ) → Option (List ℕ) → List ℕ → Type 0
IsBuffered bytes before after waiting =
    (out : List ℕ) × (after ≡ append_known before out) × (bytes ≡ out ++ waiting)

-- of these bytes a part from the front went out
abbrev pub GoesPartly : List ℕ → Option (List ℕ) → Option (List ℕ) → Type 0
GoesPartly bytes before after =
    (count : ℕ) × (count ≤ length bytes) × (after ≡ append_known before (take count bytes))
