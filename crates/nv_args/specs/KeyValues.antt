-- Which values the keys of Dicts take (help: api-types, nvim_buf_set_extmark(), nvim_set_hl(),
-- nvim_open_win()), and what they give.
use Rattle.std.specs.Prelude.{ℕ, ℤ, pos, negsuc, ◌==◌, Bool, false, ◌&&◌, ◌||◌, nat_le, List, length, codes, bytes_eq, take, drop, Option, Some, None, is_some, option_map, option_and_then, unwrap_or, if◌then◌else◌}
use Rattle.std.specs.Option.{option_map_or}
use Rattle.std.specs.Char.{is_ascii_hexdigit}
use Rattle.std.specs.List.{list_all}
use Rattle.std.specs.Str.Parse.{digits_value}
use Rattle.nv_value.specs.Content.{Tree}
use Rattle.nv_msgpack.specs.Handle.{handle_in, integer_of}
use Rattle.nv_args.specs.Arguments.{truth_in, string_in}

-- a number from a least to a greatest one
abbrev pub number_between : ℕ → ℕ → ℤ → Option ℕ
number_between low high (pos n) = if nat_le low n && nat_le n high then Some n else None
number_between low high (negsuc n) = None

-- a number from a least one on
abbrev pub number_from : ℕ → ℤ → Option ℕ
number_from low (pos n) = if nat_le low n then Some n else None
number_from low (negsuc n) = None

-- an Integer from a least to a greatest one, and from a least one on
abbrev pub integer_between : ℕ → ℕ → Tree → Option ℕ
integer_between low high t = option_and_then (number_between low high) (integer_of t)

abbrev pub integer_from : ℕ → Tree → Option ℕ
integer_from low t = option_and_then (number_from low) (integer_of t)

-- a colour by six hexadecimal digits behind a number sign
abbrev pub colour_of_digits : List ℕ → Option ℕ
colour_of_digits digits =
    if length digits == 6 && list_all is_ascii_hexdigit digits
    then Some (digits_value 16 digits) else None

-- a colour by its words: none of its own, or its digits
abbrev pub colour_in_words : List ℕ → Option (Option ℕ)
colour_in_words words =
    if bytes_eq words (codes "NONE") then Some None
    else if bytes_eq (take 1 words) (codes "#")
    then option_map Some (colour_of_digits (drop 1 words))
    else None

-- a colour as a value: as words, or as a number
abbrev pub colour_by : Option (List ℕ) → Option ℤ → Option (Option ℕ)
colour_by (Some words) given = colour_in_words words
colour_by None (Some n) = option_map Some (number_between 0 16777215 n)
colour_by None None = None

abbrev pub colour_in : Tree → Option (Option ℕ)
colour_in t = colour_by (string_in t) (integer_of t)

-- a terminal's colour
abbrev pub terminal_colour_in : Tree → Option ℕ
terminal_colour_in = integer_between 0 255

-- whether a word names a side of a window
abbrev pub is_side_word : List ℕ → Bool
is_side_word word =
    bytes_eq word (codes "left")
    || (bytes_eq word (codes "right")
    || (bytes_eq word (codes "above") || bytes_eq word (codes "below")))

-- whether a value is a Boolean, and one that is true
abbrev pub takes_flag : Tree → Bool
takes_flag t = is_some (truth_in t)

abbrev pub takes_true : Tree → Bool
takes_true t = unwrap_or (truth_in t) false

-- whether it is an Integer, one in a range, and one from a least on
abbrev pub takes_integer : Tree → Bool
takes_integer t = is_some (integer_of t)

abbrev pub takes_integer_between : ℕ → ℕ → Tree → Bool
takes_integer_between low high t = is_some (integer_between low high t)

abbrev pub takes_integer_from : ℕ → Tree → Bool
takes_integer_from low t = is_some (integer_from low t)

-- whether it is a String, one that names a side, and a name or a number
abbrev pub takes_string : Tree → Bool
takes_string t = is_some (string_in t)

abbrev pub takes_side : Tree → Bool
takes_side t = option_map_or is_side_word (string_in t) false

abbrev pub takes_name_or_number : Tree → Bool
takes_name_or_number t = is_some (string_in t) || is_some (integer_of t)

-- whether it is a handle of this type
abbrev pub takes_handle : ℤ → Tree → Bool
takes_handle handle_type t = is_some (handle_in handle_type t)

-- whether it is a colour, and a terminal's colour
abbrev pub takes_colour : Tree → Bool
takes_colour t = is_some (colour_in t)

abbrev pub takes_terminal_colour : Tree → Bool
takes_terminal_colour t = is_some (terminal_colour_in t)
