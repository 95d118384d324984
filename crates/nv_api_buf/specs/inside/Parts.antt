-- inside: rows of a text, single lines of text that lies between two places, lines that are too
-- long, and the strings of values.
use Rattle.std.specs.Prelude.{ℕ, ◌≡◌, ◌<◌, ◌+◌, ◌==◌, Bool, nat_lt, if◌then◌else◌, List, [], ◌++◌, length, map, take, drop, unwrap_or}
use Rattle.nv_value.specs.Content.{Tree}
use Rattle.nv_places.specs.Flat.{line_at}
use Rattle.nv_places.specs.declared.place.Pos.{Pos}
use Rattle.nv_args.specs.Arguments.{string_in}
use Rattle.nv_api_buf.specs.declared.text.TextRow.{TextRow}

-- a row of a text, with the bytes of its line
pub record IsRowOf (lines : List (List ℕ)) (r : TextRow) : Type 0 where
  pub row : r.row < length lines
  pub bytes : r.bytes ≡ length (line_at lines r.row)

-- what of the line of a row stands between two places
abbrev pub part_of : List ℕ → ℕ → Pos → Pos → List ℕ
part_of line row start stop = drop (if row == start.row then start.col else 0)
    (if row == stop.row then take stop.col line else line)

-- the line at a place, of so many, where bytes are put before the first and behind the last
abbrev pub joined_line : List ℕ → ℕ → ℕ → List ℕ → List ℕ → List ℕ
joined_line line place count front back =
    (if place == 0 then front else []) ++ (line ++ (if place + 1 == count then back else []))

-- whether a line has more bytes than this
abbrev pub is_longer : ℕ → List ℕ → Bool
is_longer most line = nat_lt most (length line)

-- the strings of values; the empty one for a value that is none
abbrev pub text_of_value : Tree → List ℕ
text_of_value t = unwrap_or (string_in t) []

abbrev pub texts_of : List Tree → List (List ℕ)
texts_of = map text_of_value
