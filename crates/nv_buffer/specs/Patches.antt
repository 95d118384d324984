-- inside: bytes of a row that others take the place of, and the edit that they are.
use Rattle.std.specs.Prelude.{◌≡◌, ℕ, ◌+◌, ◌<◌, ◌≤◌, List, [], ◌∷◌, ◌++◌, length, take, drop, false}
use Rattle.nv_places.specs.Flat.{line_at}
use Rattle.nv_buffer.specs.Splices.{IsNarrowLine}
use Rattle.nv_buffer.specs.Changes.{turned_part}
use Rattle.nv_buffer.specs.declared.edit.Edit.{Edit}
use Rattle.nv_buffer.specs.declared.patch.Patch.{Patch}

-- a row with the bytes of a patch in place of those that it takes
abbrev pub patched_row : List ℕ → Patch → List ℕ
patched_row row patch =
    (take patch.col row ++ patch.put) ++ drop (patch.col + length patch.taken) row

-- the edit that a patch is of this text
abbrev pub patch_edit : List (List ℕ) → Patch → Edit
patch_edit text patch = record {
  first = patch.row;
  last = patch.row + 1;
  lines = patched_row (line_at text patch.row) patch ∷ [];
  at = patch.at;
  old = length patch.taken;
  new = length patch.put;
  start = record { row = patch.row; col = patch.col };
  removed = record { rows = 0; cols = length patch.taken };
  put = record { rows = 0; cols = length patch.put };
  rows = false;
  part = patch.part;
}

-- the patch that takes this one back
abbrev pub patch_back : Patch → Patch
patch_back patch =
    record patch { taken = patch.put; put = patch.taken; part = turned_part patch.part }

-- the bytes that a patch takes stand in a row of this text
pub record IsPatch (text : List (List ℕ)) (patch : Patch) : Type 0 where
  pub row : patch.row < length text
  pub col : patch.col + length patch.taken ≤ length (line_at text patch.row)
  pub taken : take (length patch.taken) (drop patch.col (line_at text patch.row)) ≡ patch.taken
  pub put : IsNarrowLine patch.put

-- an edit of this text is that of a patch
pub record IsPatchOf (text : List (List ℕ)) (edit : Edit) (patch : Patch) : Type 0 where
  pub same : patch_edit text patch ≡ edit
  pub stands : IsPatch text patch

-- an edit puts bytes within a row in place of others there
pub record IsInRow (edit : Edit) : Type 0 where
  pub rows : edit.rows ≡ false
  pub start : edit.start.row ≡ edit.first
  pub last : edit.last ≡ edit.first + 1
  pub removed : edit.removed.rows ≡ 0
  pub put : edit.put.rows ≡ 0

-- a patch has the bytes that an edit takes and puts in its row, by the row before and after it
pub record IsChanged (edit : Edit) (before after : List ℕ) (patch : Patch) : Type 0 where
  pub row : patch.row ≡ edit.first
  pub col : patch.col ≡ edit.start.col
  pub at : patch.at ≡ edit.at
  pub part : patch.part ≡ edit.part
  pub taken : take edit.removed.cols (drop edit.start.col before) ≡ patch.taken
  pub put : take edit.put.cols (drop edit.start.col after) ≡ patch.put
  pub taken_in : edit.start.col + edit.removed.cols ≤ length before
  pub put_in : edit.start.col + edit.put.cols ≤ length after
