-- A handle: a number by itself, or in the data of an ext value of its kind.
use Rattle.std.specs.Prelude.{ℕ, ℤ, ◌≡◌, ◌⊎◌, ◌==◌, if◌then◌else◌, List, length, Option, Some, None}
use Rattle.std.specs.Ordering.{int_eq}
use Rattle.nv_value.specs.Content.{Tree, integer, ext}
use Rattle.nv_msgpack.specs.Spelling.{Spells}
use Rattle.nv_msgpack.specs.Reading.{Reading, whole, more, flawed, value_at}

-- The value stands for the handle n of this kind: it is the integer, or an ext value of the kind
-- whose data spells it (Neovim help `api-types`: an object handle is an ext value, and any integer
-- is taken).
abbrev pub IsHandle : ℤ → Tree → ℤ → Type 0
IsHandle kind t n =
    (t ≡ integer n) ⊎ ((bytes : List ℕ) × (t ≡ ext kind bytes) × Spells (integer n) bytes)

-- The integer that a tree is.
abbrev pub integer_of : Tree → Option ℤ
integer_of (integer n) = Some n
integer_of _ = None

-- The integer that is read, of this length.
abbrev pub whole_integer : ℕ → Reading Tree → Option ℤ
whole_integer n (whole t k) = if k == n then integer_of t else None
whole_integer n more = None
whole_integer n (flawed x k) = None

-- The integer that all the bytes spell.
abbrev pub integer_in : List ℕ → Option ℤ
integer_in bytes = whole_integer (length bytes) (value_at 0 (length bytes) bytes)

-- The handle that a value of a kind stands for.
abbrev pub handle_in : ℤ → Tree → Option ℤ
handle_in kind (integer n) = Some n
handle_in kind (ext k bytes) = if int_eq k kind then integer_in bytes else None
handle_in kind _ = None
