-- Lines as calls give them and are given them (help: api-indexing, nvim_buf_set_lines(),
-- nvim_buf_get_text()), and numbers in the texts of commands.
use Rattle.std.specs.Prelude.{ℕ, ◌+◌, ◌==◌, nat_lt, ◌&&◌, Bool, List, [], ◌∷◌, length, take, drop, slice_range, Option, Some, None, if◌then◌else◌}
use Rattle.std.specs.List.{list_any, splice}
use Rattle.std.specs.Str.{all_ascii_digits}
use Rattle.std.specs.Str.Parse.{digits_value}
use Rattle.nv_value.specs.Content.{Trees, text, no_more, one}
use Rattle.nv_places.specs.declared.place.Pos.{Pos}

-- lines as a list of strings
abbrev pub strings : List (List ℕ) → Trees
strings [] = no_more
strings (line ∷ lines) = one (text line) (strings lines)

-- whether a line holds a line feed
abbrev pub has_newline : List ℕ → Bool
has_newline = list_any (λ byte. byte == 10)

-- lines that are put in place of all of a text, or of a part: one empty line where none would be
-- left, since a text is never empty
abbrev pub left_with : List (List ℕ) → List (List ℕ) → List (List ℕ)
left_with [] new = [] ∷ []
left_with (line ∷ lines) new = new

-- the lines that are put in place of the rows from a first to before a second
abbrev pub lines_put : ℕ → ℕ → List (List ℕ) → List (List ℕ) → List (List ℕ)
lines_put from to new lines = left_with (splice lines from to new) new

-- lines as text is put: one empty line where there is none
abbrev pub or_empty : List (List ℕ) → List (List ℕ)
or_empty [] = [] ∷ []
or_empty (line ∷ lines) = line ∷ lines

-- the lines with the first one's bytes from a column on
abbrev pub first_from : ℕ → List (List ℕ) → List (List ℕ)
first_from col [] = []
first_from col (line ∷ lines) = drop col line ∷ lines

-- the lines with the last one's bytes before a column
abbrev pub last_before : ℕ → List (List ℕ) → List (List ℕ)
last_before col [] = []
last_before col (line ∷ []) = take col line ∷ []
last_before col (line ∷ next ∷ lines) = line ∷ last_before col (next ∷ lines)

-- the text between two places, line by line
abbrev pub text_between : List (List ℕ) → Pos → Pos → List (List ℕ)
text_between lines start stop =
    first_from start.col (last_before stop.col (slice_range lines start.row (stop.row + 1)))

-- the number that 1 to 18 decimal digits write, leading zeros allowed
abbrev pub decimal_number : List ℕ → Option ℕ
decimal_number digits =
    if nat_lt 0 (length digits) && (nat_lt (length digits) 19 && all_ascii_digits digits)
    then Some (digits_value 10 digits) else None
