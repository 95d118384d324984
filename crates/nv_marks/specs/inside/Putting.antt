-- inside: what it takes to put a record into chunks, or take one out of them, and what that does.
use Rattle.std.specs.Prelude.{◌≡◌, ℕ, ◌+◌, ◌<◌, ◌≤◌, List, [], ◌∷◌, ◌++◌, length, drop, Vec, vec_len, vec_capacity, IsPermutation}
use Rattle.nv_places.specs.Places.{IsNarrow}
use Rattle.nv_marks.specs.declared.record.Record.{Record}
use Rattle.nv_marks.specs.inside.Records.{ForEach, Sort}
use Rattle.nv_marks.specs.inside.Chunks.{Piece, IsLaid, IsSpare, held_records, spread_records}

-- a list in which records are put in order: there is none in it, and room for so many
pub record IsScratch {Z : Type 0} (n : ℕ) (scratch : Vec Record Z) : Type 0 where
  pub none : scratch.items ≡ []
  pub empty : vec_len scratch ≡ 0
  pub room : n ≤ vec_capacity scratch

-- it has none again, and the same room
pub record IsCleared {Z : Type 0} (old new : Vec Record Z) : Type 0 where
  pub none : new.items ≡ []
  pub empty : vec_len new ≡ 0
  pub room : vec_capacity new ≡ vec_capacity old

-- there is a spare chunk
pub record HasSpare {Z : Type 0} (spare : Vec Piece Z) : Type 0 where
  pub some : 0 < vec_len spare
  pub each : ForEach IsSpare spare.items

-- one of the spare chunks was taken at most
pub record IsSpared {Z : Type 0} (old new : Vec Piece Z) : Type 0 where
  pub most : vec_len old ≤ vec_len new + 1
  pub each : ForEach IsSpare new.items

-- a record was put in, with one more chunk at most
pub record IsRecordPut {Z : Type 0} (one : Record) (old new : Vec Piece Z) : Type 0 where
  pub laid : IsLaid new.items
  pub same_records : IsPermutation (one ∷ spread_records old.items) (spread_records new.items)
  pub place : vec_capacity new ≡ vec_capacity old
  pub places : vec_len new ≤ vec_len old + 1

-- a record was taken out, and no chunk came
pub record IsRecordTaken {Z : Type 0} (one : Record) (old new : Vec Piece Z) : Type 0 where
  pub laid : IsLaid new.items
  pub same_records : IsPermutation (spread_records old.items) (one ∷ spread_records new.items)
  pub place : vec_capacity new ≡ vec_capacity old
  pub places : vec_len new ≤ vec_len old

-- records may stand in the place of those of a chunk
pub record FitsAt (at : ℕ) (rs : List Record) (ps : List Piece) : Type 0 where
  pub within : at < length ps
  pub in_order : Sort (held_records 0 at ps ++ (rs ++ spread_records (drop (at + 1) ps)))
  pub narrow : ForEach (λ r. IsNarrow r.pos) rs

-- they stand there
pub record IsWritten {Z : Type 0} (at : ℕ) (rs : List Record) (old new : Vec Piece Z) : Type 0 where
  pub laid : IsLaid new.items
  pub records : spread_records new.items
      ≡ held_records 0 at old.items ++ (rs ++ spread_records (drop (at + 1) old.items))
  pub place : vec_capacity new ≡ vec_capacity old

-- a chunk holds more than 33 records with the one before it, and with the one behind it
pub record StaysAmple (at : ℕ) (ps : List Piece) : Type 0 where
  pub before : (k : ℕ) → k + 1 ≡ at → 33 < length (held_records k 2 ps)
  pub behind : at + 1 < length ps → 33 < length (held_records at 2 ps)
