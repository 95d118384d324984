-- The line that a comparison ends with (own rule).
use Rattle.std.specs.Prelude.{ℕ, ◌+◌, ◌-◌, ◌^◌, min, Bool, true, false, List, [], ◌∷◌, ◌++◌, length, codes, decimal, if◌then◌else◌}
use Rattle.nv_history.specs.Events.{Event, open_session, request_of, take_of, close_of, Entry}
use Rattle.nv_book.specs.Books.{Recorded, entries_of_records}

-- whether an event opens a session, and whether it is a take
abbrev pub is_opening : Event → Bool
is_opening open_session = true
is_opening (request_of s call) = false
is_opening (take_of s) = false
is_opening (close_of s) = false

abbrev pub is_take : Event → Bool
is_take open_session = false
is_take (request_of s call) = false
is_take (take_of s) = true
is_take (close_of s) = false

-- how many entries have events of a kind
abbrev pub count_of_kind : (Event → Bool) → List Entry → ℕ
count_of_kind is_kind [] = 0
count_of_kind is_kind (e ∷ es) = (if is_kind e.event then 1 else 0) + count_of_kind is_kind es

-- how many bytes all outputs have
abbrev pub bytes_of_outputs : List Recorded → ℕ
bytes_of_outputs [] = 0
bytes_of_outputs (r ∷ rs) = length r.output + bytes_of_outputs rs

-- a count behind its words
abbrev pub counted : List ℕ → ℕ → List ℕ
counted words n = words ++ decimal n

-- the line of such counts
abbrev pub line_of_counts : ℕ → ℕ → ℕ → ℕ → List ℕ
line_of_counts entries sessions takes bytes =
    counted (codes "entries ") entries ++ counted (codes " sessions ") sessions
    ++ counted (codes " takes ") takes ++ counted (codes " bytes ") bytes ++ codes " ok\n"

-- a number that 64 bits can't hold stands at their end
abbrev pub most_counted : ℕ → ℕ
most_counted n = min n (2 ^ 64 - 1)

-- the line of a history with its outputs
abbrev pub summary_line : List Recorded → List ℕ
summary_line rs =
    line_of_counts (length rs) (count_of_kind is_opening (entries_of_records rs))
    (count_of_kind is_take (entries_of_records rs)) (most_counted (bytes_of_outputs rs))
