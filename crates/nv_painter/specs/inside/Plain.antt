-- inside: bytes as they are shown, each in a cell without an attribute.
use Rattle.std.specs.Prelude.{ℕ, ◌-◌, List, [], ◌∷◌, ◌++◌, length, map, replicate}
use Rattle.nv_linegrid.specs.Client.{Shown, shown_of}

-- inside: a byte in a cell without an attribute
abbrev pub byte_shown : ℕ → Shown
byte_shown byte = shown_of (byte ∷ []) 0

-- inside: bytes with spaces behind them where they are fewer than so many
abbrev pub plain_shown : ℕ → List ℕ → List Shown
plain_shown width bytes =
    map byte_shown bytes ++ replicate (width - length bytes) (byte_shown 32)
