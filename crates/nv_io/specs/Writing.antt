-- What one write takes.
use Rattle.std.specs.Prelude.{ℕ, List, [], take, ⊤}
use Rattle.nv_io.specs.declared.streams.Put.{Put}
use Rattle.nv_io.specs.declared.streams.Put.TheVariants.{Took, Failed}

-- the bytes that a write took from the front of its piece
abbrev pub bytes_put : Put → List ℕ → List ℕ
bytes_put (Took n) piece = take n piece
bytes_put Failed piece = []

-- a fact of the number of bytes that a write took
abbrev pub IfTook : Put → (ℕ → Type 0) → Type 0
IfTook (Took n) P = P n
IfTook Failed P = ⊤
