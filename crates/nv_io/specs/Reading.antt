-- What one read gives.
use Rattle.std.specs.Prelude.{ℕ, List, [], take, ⊤}
use Rattle.nv_io.specs.declared.streams.Got.{Got}
use Rattle.nv_io.specs.declared.streams.Got.TheVariants.{Bytes, End, Failed}

-- the bytes that a read put at the front of its buffer
abbrev pub bytes_got : Got → List ℕ → List ℕ
bytes_got (Bytes n) buffer = take n buffer
bytes_got End buffer = []
bytes_got Failed buffer = []

-- a fact of the number of bytes that a read gave
abbrev pub IfBytes : Got → (ℕ → Type 0) → Type 0
IfBytes (Bytes n) P = P n
IfBytes End P = ⊤
IfBytes Failed P = ⊤
