-- Laws of the pieces of a line.
use Rattle.std.specs.Prelude.{◌≡◌, ℕ, ◌<◌, List, [], ◌∷◌, length}
use Rattle.nv_text.specs.declared.piece.Piece.{Piece}
use Rattle.nv_text.specs.Pieces.{pieces_of}

-- the pieces cover the bytes from one place up to another in order, without gap or overlap, and
-- none is empty
abbrev pub Cover : ℕ → List Piece → ℕ → Type 0
Cover from [] to = from ≡ to
Cover from (piece ∷ rest) to =
    (piece.from ≡ from) × (piece.from < piece.to) × Cover piece.to rest to

-- the pieces of a line cover it from its first byte to its last
abbrev pub LinesAreCovered : Type 0
LinesAreCovered = (line : List ℕ) → Cover 0 (pieces_of line) (length line)
