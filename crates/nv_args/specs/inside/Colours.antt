-- inside: a colour by its three parts, each of two hexadecimal digits.
use Rattle.std.specs.Prelude.{ℕ, ◌+◌, ◌*◌, Option, Some, None, if◌then◌else◌}
use Rattle.std.specs.Char.{is_ascii_hexdigit, digit_value}

-- the value of a hexadecimal digit
abbrev pub hex_value : ℕ → Option ℕ
hex_value byte = if is_ascii_hexdigit byte then Some (digit_value byte) else None

-- two digits as one number
abbrev pub digits_together : Option ℕ → Option ℕ → Option ℕ
digits_together (Some first) (Some second) = Some (first * 16 + second)
digits_together _ _ = None

abbrev pub two_digits : ℕ → ℕ → Option ℕ
two_digits first second = digits_together (hex_value first) (hex_value second)

-- three parts as one number
abbrev pub colour_of_parts : Option ℕ → Option ℕ → Option ℕ → Option ℕ
colour_of_parts (Some red) (Some green) (Some blue) = Some ((red * 256 + green) * 256 + blue)
colour_of_parts _ _ _ = None
