-- inside: records in chunks, with places relative to the first of each chunk.
use Rattle.std.specs.Prelude.{◌≡◌, ℕ, zero, suc, ◌+◌, ◌-◌, ◌<◌, ◌≤◌, ◌==◌, if◌then◌else◌, Bool, true, false, List, [], ◌∷◌, ◌++◌, length, map, take, drop, slice_set, slice_index_or, find, Some, insert, remove, nat_lt, ◌&&◌, IsPermutation}
use Rattle.nv_places.specs.declared.place.Pos.{Pos}
use Rattle.nv_places.specs.declared.place.Extent.{Extent}
use Rattle.nv_places.specs.Places.{IsNarrow, further, is_before}
use Rattle.nv_places.specs.Moves.{moved_place}
use Rattle.nv_marks.specs.declared.record.Record.{Record}
use Rattle.nv_marks.specs.declared.record.Relative.{Relative}
use Rattle.nv_marks.specs.inside.Records.{ForEach, Sort, moved_record, precedes}

-- a chunk as its clauses see it: where its first record stands, its records, and for how many it
-- has room
pub record Piece : Type 0 where
  pub base : Pos
  pub kept : List Relative
  pub room : ℕ

-- how far a place lies behind a base
abbrev pub reach : Pos → Pos → Extent
reach base p =
    if p.row == base.row then record { rows = 0; cols = p.col - base.col }
    else record { rows = p.row - base.row; cols = p.col }

-- a record that is kept, with its place
abbrev pub placed_record : Pos → Relative → Record
placed_record base k = record { pos = further base k.by; info = k.info }

-- a record as it is kept behind a base
abbrev pub kept_from : Pos → Record → Relative
kept_from base r = record { by = reach base r.pos; info = r.info }

-- the records of a chunk
abbrev pub records_of : Piece → List Record
records_of p = map (placed_record p.base) p.kept

-- the records of chunks, one chunk after another
abbrev pub spread_records : List Piece → List Record
spread_records [] = []
spread_records (p ∷ ps) = records_of p ++ spread_records ps

-- the place of the first of some records
abbrev pub base_of : List Record → Pos
base_of [] = record { row = 0; col = 0 }
base_of (r ∷ rs) = r.pos

-- a chunk with other records
abbrev pub refilled_piece : List Record → Piece → Piece
refilled_piece rs p = record p { base = base_of rs; kept = map (kept_from (base_of rs)) rs }

-- a chunk has from 1 to 64 records, and room for 64
pub record IsFit (p : Piece) : Type 0 where
  pub some : 0 < length p.kept
  pub few : length p.kept ≤ 64
  pub room : 64 ≤ p.room

-- a chunk's base is the place of its first record
abbrev pub IsBased : Piece → Type 0
IsBased p = base_of (records_of p) ≡ p.base

-- a chunk and the next one hold more than 32 records
abbrev pub IsAmple : Piece → List Piece → Type 0
IsAmple p [] = Unit {0}
IsAmple p (q ∷ qs) = 32 < length p.kept + length q.kept

abbrev pub Ample : List Piece → Type 0
Ample [] = Unit {0}
Ample (p ∷ ps) = IsAmple p ps × Ample ps

-- chunks have as many records as they may, wherever these stand
pub record IsShaped (ps : List Piece) : Type 0 where
  pub fit : ForEach IsFit ps
  pub ample : Ample ps

-- what every store of records keeps
pub record IsLaid (ps : List Piece) : Type 0 where
  pub fit : ForEach IsFit ps
  pub ample : Ample ps
  pub based : ForEach IsBased ps
  pub in_order : Sort (spread_records ps)
  pub narrow : ForEach (λ r. IsNarrow r.pos) (spread_records ps)

-- a chunk that waits to be extended_list
abbrev pub IsSpare : Piece → Type 0
IsSpare p = 64 ≤ p.room

-- a chunk's first record comes before a record
abbrev pub starts_before : Record → Piece → Bool
starts_before r p = first_before r p.base p.kept
  where
    first_before : Record → Pos → List Relative → Bool
    first_before r base [] = false
    first_before r base (k ∷ ks) = precedes (record { pos = base; info = k.info }) r

-- ---- what single puts do to chunks

-- a chunk with another base, or with another record at a place
abbrev pub with_base : Pos → Piece → Piece
with_base base p = record p { base = base }

abbrev pub with_kept : ℕ → Relative → Piece → Piece
with_kept at k p = record p { kept = slice_set p.kept at k }

-- the first place of a text
abbrev pub text_start : Pos
text_start = record { row = 0; col = 0 }

-- a record that is kept behind a base, kept behind the first place of a text
abbrev pub rebased_from : Pos → Relative → Relative
rebased_from base k = kept_from text_start (placed_record base k)

-- a chunk with all records kept so, and another record, which may stand anywhere, at a place
abbrev pub with_record : ℕ → Record → Piece → Piece
with_record at r p = record p {
  base = text_start;
  kept = slice_set (map (rebased_from p.base) p.kept) at (kept_from text_start r);
}

-- a chunk with one more record at a place, or with one less, and its base as it was
abbrev pub with_inserted : ℕ → Record → Piece → Piece
with_inserted at r p = record p { kept = insert p.kept at (kept_from p.base r) }

abbrev pub with_removed : ℕ → Piece → Piece
with_removed at p = record p { kept = remove p.kept at }

-- a record goes into a chunk behind its first record, and there is room for it
abbrev pub has_place : Record → Piece → Bool
has_place r p = nat_lt (length p.kept) 64 && starts_before r p

-- the n-th chunk changed
abbrev pub pieces_edited_at : ℕ → (Piece → Piece) → List Piece → List Piece
pieces_edited_at n f [] = []
pieces_edited_at zero f (p ∷ ps) = f p ∷ ps
pieces_edited_at (suc n) f (p ∷ ps) = p ∷ pieces_edited_at n f ps

-- records put behind a base, from a place in the chunk on
abbrev pub piece_written_from : ℕ → Pos → List Record → Piece → Piece
piece_written_from at base [] p = p
piece_written_from at base (r ∷ rs) p =
    piece_written_from (at + 1) base rs (with_kept at (kept_from base r) p)

-- the base of records and then each of them put
abbrev pub written_piece : List Record → Piece → Piece
written_piece [] p = p
written_piece (r ∷ rs) p = piece_written_from 0 r.pos (r ∷ rs) (with_base r.pos p)

-- m chunks from the n-th on written_piece from records, each with as many as it has
abbrev pub refit_pieces : ℕ → ℕ → List Piece → List Record → List Piece
refit_pieces n m [] rs = []
refit_pieces zero zero (p ∷ ps) rs = p ∷ ps
refit_pieces zero (suc m) (p ∷ ps) rs =
    written_piece (take (length p.kept) rs) p ∷ refit_pieces zero m ps (drop (length p.kept) rs)
refit_pieces (suc n) m (p ∷ ps) rs = p ∷ refit_pieces n m ps rs

-- chunks from the n-th on with their bases moved
abbrev pub carried_piece : Pos → Extent → Extent → Piece → Piece
carried_piece start old new p = record p { base = moved_place true start old new p.base }

abbrev pub pieces_carried_from : ℕ → Pos → Extent → Extent → List Piece → List Piece
pieces_carried_from n start old new [] = []
pieces_carried_from zero start old new (p ∷ ps) =
    carried_piece start old new p ∷ pieces_carried_from zero start old new ps
pieces_carried_from (suc n) start old new (p ∷ ps) = p ∷ pieces_carried_from n start old new ps

-- the n-th chunk split into two, of 33 records and of the rest of them, the second in the place of
-- a spare one
abbrev pub parted_pieces : ℕ → List Record → Piece → List Piece → List Piece
parted_pieces n rs s [] = []
parted_pieces zero rs s (p ∷ ps) =
    refilled_piece (take 33 rs) p ∷ refilled_piece (drop 33 rs) s ∷ ps
parted_pieces (suc n) rs s (p ∷ ps) = p ∷ parted_pieces n rs s ps

-- the first n chunks filled anew from records, each with 64 or with what is left
abbrev pub packed_pieces : ℕ → List Piece → List Record → List Piece
packed_pieces zero ps rs = ps
packed_pieces (suc n) [] rs = []
packed_pieces (suc n) (p ∷ ps) rs =
    refilled_piece (take 64 rs) p ∷ packed_pieces n ps (drop 64 rs)

-- the records of m chunks from the n-th on
abbrev pub held_records : ℕ → ℕ → List Piece → List Record
held_records n m ps = spread_records (take m (drop n ps))

-- all of some chunks written_piece from records, each with as many as it has
abbrev pub refilled_pieces : List Piece → List Record → List Piece
refilled_pieces [] rs = []
refilled_pieces (p ∷ ps) rs =
    written_piece (take (length p.kept) rs) p ∷ refilled_pieces ps (drop (length p.kept) rs)

-- the first record that passes a test stands at a place of a chunk
pub record IsFoundAt (t : Record → Bool) (ps : List Piece) (n i : ℕ) : Type 0 where
  pub chunk : n < length ps
  pub place : i < length (held_records n 1 ps)
  pub found : (d : Record) → find t (spread_records ps)
      ≡ Some (slice_index_or (held_records n 1 ps) i d)

-- a record goes into a chunk: no record of the chunks before comes behind it, and none of those
-- behind comes before it
pub record IsChunkFor (r : Record) (ps : List Piece) (n : ℕ) : Type 0 where
  pub within : n < length ps
  pub front : ForEach (λ q. precedes r q ≡ false) (held_records 0 n ps)
  pub behind : ForEach (λ q. precedes q r ≡ false) (spread_records (drop (n + 1) ps))

-- the records of the chunks from one place to before another may be put in any order that is theirs
pub record IsLoosePart (ps : List Piece) (from to : ℕ) : Type 0 where
  pub in_order : from ≤ to
  pub within : to ≤ length ps
  pub front : ForEach IsBased (take from ps)
  pub behind : ForEach IsBased (drop to ps)
  pub fits : (rs : List Record)
      → IsPermutation (spread_records (take (to - from) (drop from ps))) rs
      → Sort rs → Sort (spread_records (take from ps) ++ (rs ++ spread_records (drop to ps)))

-- ---- which chunks a splice writes

-- the chunks from one place to before another are those whose records may change their order
pub record IsTouched (start : Pos) (old : Extent) (ps : List Piece) (from to : ℕ) : Type 0 where
  pub in_order : from ≤ to
  pub within : to ≤ length ps
  pub front : ForEach (λ r. is_before r.pos start ≡ true) (spread_records (take from ps))
  pub behind : ForEach (λ p. is_before (further start old) p.base ≡ true) (drop to ps)
  pub after : ForEach (λ p. is_before p.base start ≡ false) (drop (from + 1) ps)
  pub up_to : ForEach (λ p. is_before (further start old) p.base ≡ false)
      (take (to - from) (drop from ps))

-- the chunks from one place to before another hold their records moved and in order
pub record IsMovedPart (start : Pos) (old new : Extent) (from to : ℕ)
    (ps qs : List Piece) : Type 0 where
  pub records : List Record
  pub same : IsPermutation
      (map (moved_record start old new) (spread_records (take (to - from) (drop from ps)))) records
  pub in_order : Sort records
  pub put : qs ≡ refit_pieces from (to - from) ps records

-- no record stands from `start` to `end`: n stand before, one at least, and m behind, up to the row
-- of `end`
pub record IsGap (start end : Pos) (rs : List Record) (n m : ℕ) : Type 0 where
  pub some : 0 < n
  pub within : n + m ≤ length rs
  pub front : ForEach (λ r. is_before r.pos start ≡ true) (take n rs)
  pub behind : ForEach (λ r. is_before end r.pos ≡ true) (drop n rs)
  pub later : ForEach (λ r. end.row < r.pos.row) (drop m (drop n rs))
