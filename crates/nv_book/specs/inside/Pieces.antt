-- inside: outputs that are read piece by piece.
use Rattle.std.specs.Prelude.{◌≡◌, ℕ, ◌+◌, ◌*◌, ◌<◌, ◌≤◌, ◌==◌, Bool, true, false, ⊤, List, [], ◌∷◌, ◌++◌, length, map, Option, Result, Ok, Err}
use Rattle.nv_value.specs.Content.{Tree, bin}
use Rattle.nv_history.specs.Events.{Event, open_session, request_of, take_of, close_of}
use Rattle.nv_book.specs.Books.{most_piece, pieces_in, output_pieces}
use Rattle.nv_book.specs.Reading.{HasGiven}
use Rattle.nv_book.specs.inside.Intakes.{Intaking, StopsBehind, StopsFor}
use Rattle.nv_book.specs.declared.faults.Unread.{Unread}
use Rattle.nv_book.specs.declared.faults.Unread.TheVariants.{NoMemory, ReadFault, Malformed}

-- so many bytes are a piece: the last one may be shorter than the others
abbrev pub IsPiece : Bool → ℕ → Type 0
IsPiece true n = (0 < n) × (n ≤ most_piece)
IsPiece false n = n ≡ most_piece

-- the output of an event is of so many pieces
abbrev pub IsCountOf : Event → ℕ → Type 0
IsCountOf open_session n = n ≡ 0
IsCountOf (request_of s call) n = n ≡ 0
IsCountOf (take_of s) n = ⊤
IsCountOf (close_of s) n = n ≡ 0

-- a value is no such piece
abbrev pub IsNoPiece : Bool → Tree → Type 0
IsNoPiece is_last t = (piece : List ℕ) → t ≡ bin piece → IsPiece is_last (length piece) → ⊥

-- it is one, which was put behind what was held
pub record IsPut (is_last : Bool) (t : Tree) (old new : List ℕ) : Type 0 where
  pub piece : List ℕ
  pub is : t ≡ bin piece
  pub fits : IsPiece is_last (length piece)
  pub put : new ≡ old ++ piece

-- a piece was read, and was put behind what was held
pub record HasRead (bytes : List ℕ) (values : List Tree) (is_last : Bool) (old new : List ℕ)
    (x : Intaking) : Type 0 where
  pub t : Tree
  pub given : HasGiven bytes (values ++ t ∷ []) x.taken x.stream
  pub is_put : IsPut is_last t old new

abbrev pub GetsPiece : {A : Type 0} → List ℕ → Option (List ℕ) → List Tree → Bool
    → Result A Unread → List ℕ → List ℕ → Intaking → Type 0
GetsPiece bytes left values is_last (Ok done) old new x = HasRead bytes values is_last old new x
GetsPiece bytes left values is_last (Err fault) old new x =
    StopsFor bytes left values (IsNoPiece is_last) fault

-- so many pieces were read, and no further one follows
pub record StopsInOutput (bytes : List ℕ) (left : Option (List ℕ)) (values : List Tree)
    (count n : ℕ) : Type 0 where
  pub done : ℕ
  pub output : List ℕ
  pub more : done < count
  pub whole : length output ≡ done * most_piece
  pub stops : StopsBehind bytes left (values ++ map bin (pieces_in done output)) n
      (IsNoPiece (done + 1 == count))

abbrev pub StopsOutput : List ℕ → Option (List ℕ) → List Tree → ℕ → Unread → Type 0
StopsOutput bytes left values count NoMemory = ⊤
StopsOutput bytes left values count ReadFault = ⊤
StopsOutput bytes left values count (Malformed n) = StopsInOutput bytes left values count n

-- all pieces were read, and are those of this output
abbrev pub GetsOutput : {A : Type 0} → List ℕ → Option (List ℕ) → List Tree → ℕ
    → Result A Unread → List ℕ → Intaking → Type 0
GetsOutput bytes left values count (Ok done) output x =
    HasGiven bytes (values ++ map bin (output_pieces output)) x.taken x.stream
    × (length (output_pieces output) ≡ count)
GetsOutput bytes left values count (Err fault) output x =
    StopsOutput bytes left values count fault
