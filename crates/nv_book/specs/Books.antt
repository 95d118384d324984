-- Books: a history written down with the outputs of its takes (MessagePack specification; what the
-- values of a book are is an own rule).
use Rattle.std.specs.Prelude.{◌≡◌, ℕ, zero, suc, ◌+◌, ◌/◌, ◌^◌, ◌<◌, ◌≤◌, ⊤, List, [], ◌∷◌, ◌++◌, length, take, drop, map, flat_map}
use Rattle.std.specs.List.{AllByRecursion}
use Rattle.nv_value.specs.Content.{Tree, nil, text, bin, list, trees_of}
use Rattle.nv_msgpack.specs.Spelling.{unsigned_number, Each}
use Rattle.nv_msgpack.specs.Shortest.{shortest, depth, HasSpelling}
use Rattle.nv_msgpack.specs.Within.{SpellsWithin}
use Rattle.nv_rpc.specs.Calls.{Call, request, notice}
use Rattle.nv_history.specs.Events.{Event, open_session, request_of, take_of, close_of, Entry}
use Rattle.nv_world.specs.declared.world.TheConstants.{LEAST_OUTBOX, MOST_OUTBOX}

-- an entry of a history with its output: the bytes that a take gave, and none for any other entry
pub record Recorded : Type 0 where
  pub entry : Entry
  pub output : List ℕ

abbrev pub entries_of_records : List Recorded → List Entry
entries_of_records rs = map (λ r. r.entry) rs

-- an output is cut into pieces of so many bytes, of which the last may be shorter
abbrev pub most_piece : ℕ
most_piece = 1048576

-- how many pieces so many bytes are
abbrev pub piece_count : ℕ → ℕ
piece_count n = (n + 1048575) / 1048576

-- bytes in so many pieces, and in as many as they are
abbrev pub pieces_in : ℕ → List ℕ → List (List ℕ)
pieces_in zero bytes = []
pieces_in (suc n) bytes = take most_piece bytes ∷ pieces_in n (drop most_piece bytes)

abbrev pub output_pieces : List ℕ → List (List ℕ)
output_pieces bytes = pieces_in (piece_count (length bytes)) bytes

-- ---- the values of a book

-- a string of one letter
abbrev pub letter : ℕ → Tree
letter code = text (code ∷ [])

-- the msgid of a request; a notification has none
abbrev pub msgid_tree : Call → Tree
msgid_tree (request msgid method params) = unsigned_number msgid
msgid_tree (notice method params) = nil

abbrev pub method_tree : Call → Tree
method_tree (request msgid method params) = text method
method_tree (notice method params) = text method

abbrev pub params_tree : Call → Tree
params_tree (request msgid method params) = list params
params_tree (notice method params) = list params

-- an event of a caller; a take tells of how many pieces its output is
abbrev pub event_values : ℕ → ℕ → Event → List Tree
event_values caller count open_session = letter 111 ∷ unsigned_number caller ∷ []
event_values caller count (request_of s call) =
    letter 114 ∷ unsigned_number caller ∷ unsigned_number s
    ∷ msgid_tree call ∷ method_tree call ∷ params_tree call ∷ []
event_values caller count (take_of s) =
    letter 116 ∷ unsigned_number caller ∷ unsigned_number s ∷ unsigned_number count ∷ []
event_values caller count (close_of s) =
    letter 99 ∷ unsigned_number caller ∷ unsigned_number s ∷ []

abbrev pub entry_head : Entry → ℕ → Tree
entry_head e count = list (trees_of (event_values e.caller count e.event))

-- an entry, and then the pieces of its output
abbrev pub recorded_values : Recorded → List Tree
recorded_values r =
    entry_head r.entry (length (output_pieces r.output)) ∷ map bin (output_pieces r.output)

-- the first value of a book: its name, its version, and how many messages an outbox holds
abbrev pub book_name : List ℕ
book_name = 110 ∷ 118 ∷ 105 ∷ 109 ∷ 100 ∷ 45 ∷ 98 ∷ 111 ∷ 111 ∷ 107 ∷ []

abbrev pub book_head : ℕ → Tree
book_head outbox =
    list (trees_of (text book_name ∷ unsigned_number 1 ∷ unsigned_number outbox ∷ []))

-- the last one: how many entries there are
abbrev pub book_end : ℕ → Tree
book_end count = list (trees_of (text (101 ∷ 110 ∷ 100 ∷ []) ∷ unsigned_number count ∷ []))

-- the values of a book
abbrev pub front_values : ℕ → List Recorded → List Tree
front_values outbox rs = book_head outbox ∷ flat_map recorded_values rs

abbrev pub book_values : ℕ → List Recorded → List Tree
book_values outbox rs = front_values outbox rs ++ book_end (length rs) ∷ []

-- ---- books in bytes

-- values one after another, each in its shortest spelling
abbrev pub shortest_of_all : List Tree → List ℕ
shortest_of_all ts = flat_map shortest ts

-- the book that is written
abbrev pub bytes_of_book : ℕ → List Recorded → List ℕ
bytes_of_book outbox rs = shortest_of_all (book_values outbox rs)

-- the greatest number of bytes of a value of a book
abbrev pub most_value : ℕ
most_value = 67109120

-- a value can be written in a book, so that it can be read again
pub record IsFitValue (t : Tree) : Type 0 where
  pub spelling : HasSpelling t
  pub deep : depth t ≤ 64
  pub long : length (shortest t) ≤ most_value

-- and so can an entry
abbrev pub IsFitEntry : Entry → Type 0
IsFitEntry e = IsFitValue (entry_head e 0)

-- an entry that is no take has no output
abbrev pub IsOutputOf : Event → List ℕ → Type 0
IsOutputOf open_session output = output ≡ []
IsOutputOf (request_of s call) output = output ≡ []
IsOutputOf (take_of s) output = Unit {0}
IsOutputOf (close_of s) output = output ≡ []

-- a msgid is a number of 32 bits; a notification has none
abbrev pub HasSmallMsgid : Call → Type 0
HasSmallMsgid (request msgid method params) = msgid < 2 ^ 32
HasSmallMsgid (notice method params) = ⊤

abbrev pub HasSmallCall : Event → Type 0
HasSmallCall open_session = ⊤
HasSmallCall (request_of s call) = HasSmallMsgid call
HasSmallCall (take_of s) = ⊤
HasSmallCall (close_of s) = ⊤

-- and so is a caller
pub record IsFairRecord (r : Recorded) : Type 0 where
  pub caller : r.entry.caller < 2 ^ 32
  pub call : HasSmallCall r.entry.event
  pub output : IsOutputOf r.entry.event r.output

-- an outbox and records of which there are values of a book
pub record AreFair (outbox : ℕ) (rs : List Recorded) : Type 0 where
  pub least : LEAST_OUTBOX ≤ outbox
  pub most : outbox ≤ MOST_OUTBOX
  pub each : AllByRecursion IsFairRecord rs

-- the greatest number of lists and maps one in another in a value of a book
unfoldable pub most_nested : ℕ
most_nested = 64

-- bytes that spell a book, each value of it in any way within the bounds
pub record IsBook (bytes : List ℕ) (outbox : ℕ) (rs : List Recorded) : Type 0 where
  pub fair : AreFair outbox rs
  pub spelled : Each (SpellsWithin most_nested most_value) (trees_of (book_values outbox rs)) bytes
