-- inside: an integer by its first byte.
use Rattle.std.specs.Prelude.{ℕ, ℤ, List, length, suc, Option}
use Rattle.nv_msgpack.specs.Spelling.{Form}
use Rattle.nv_msgpack.specs.Reading.{none, read_by}
use Rattle.nv_msgpack.specs.Handle.{whole_integer}

-- The integer that a first byte of this form and the bytes behind it spell.
abbrev pub integer_by : Form → List ℕ → Option ℤ
integer_by f rest = whole_integer (suc (length rest)) (read_by none f (suc (length rest)) rest)
