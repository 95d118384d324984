-- inside: lanes that a port gave.
use Rattle.std.specs.Prelude.{ℕ, ◌≤◌, Option, Some, None, ⊤}

-- so many are out at least, where the number that are out is told
abbrev pub AreOut : Option ℕ → ℕ → Type 0
AreOut None count = ⊤
AreOut (Some n) count = count ≤ n
