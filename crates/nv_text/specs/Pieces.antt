-- The pieces of a line, what each of them is, and the cells that they take.
use Rattle.std.specs.Prelude.{ℕ, zero, suc, ◌+◌, Bool, true, false, ◌&&◌, ◌||◌, ◌==◌, nat_lt, if◌then◌else◌, List, [], ◌∷◌, ◌++◌, length, take, drop, slice_index, chars, bytes_eq, flat_map}
use Rattle.std.specs.Str.Lossy.{utf8_valid_len}
use Rattle.unicode_segmentation.specs.Grapheme.{graphemes}
use Rattle.unicode_width.specs.Width.{str_width}
use Rattle.nv_text.specs.declared.piece.Kind.{Kind}
use Rattle.nv_text.specs.declared.piece.Kind.TheVariants.{Tab, Control, Escape, Cluster}
use Rattle.nv_text.specs.declared.piece.Piece.{Piece}

-- bytes of a line that are drawn as one, with what they are
abbrev pub Part : Type 0
Part = List ℕ × Kind

-- the cells of a cluster: its width by UAX #11 and UAX #51, but no less than 1 and no more than 2
-- (own rule)
abbrev pub cluster_cells : List ℕ → ℕ
cluster_cells cluster = if nat_lt 1 (str_width false (chars cluster)) then 2 else 1

-- one byte from 00 to 1f, or 7f (ASCII: the control characters)
abbrev pub is_control : List ℕ → Bool
is_control cluster =
    (length cluster == 1)
    && (nat_lt (slice_index cluster 0) 0x20 || (slice_index cluster 0 == 0x7F))

-- the byte c2 and one from 80 to 9f: U+0080 to U+009F, whose number is the second byte (Unicode:
-- the C1 controls)
abbrev pub is_late_control : List ℕ → Bool
is_late_control cluster =
    (length cluster == 2)
    && ((slice_index cluster 0 == 0xC2) && nat_lt (slice_index cluster 1) 0xA0)

-- what a control character is: the Tab (09) stands for itself
abbrev pub control_kind : ℕ → Kind
control_kind byte = if byte == 9 then Tab else Control byte

-- what a cluster is that isn't CR LF (help: 'display', 'isprint')
abbrev pub cluster_kind : List ℕ → Kind
cluster_kind cluster =
    if is_control cluster then control_kind (slice_index cluster 0)
    else if is_late_control cluster then Escape (slice_index cluster 1)
    else Cluster (cluster_cells cluster)

-- the parts of a cluster: one, but the cluster of CR and LF is two controls
abbrev pub cluster_parts : List ℕ → List Part
cluster_parts cluster =
    if bytes_eq cluster (13 ∷ 10 ∷ []) then (13 ∷ [], Control 13) ∷ (10 ∷ [], Control 10) ∷ []
    else (cluster, cluster_kind cluster) ∷ []

-- the parts of a text: those of its extended grapheme clusters (UAX #29), in order
abbrev pub text_parts : List ℕ → List Part
text_parts text = flat_map cluster_parts (graphemes true text)

-- a byte at which no character begins is an escape, and then comes what `more` makes of the bytes
-- behind it
abbrev pub parts_from_escape : (List ℕ → List Part) → List ℕ → List Part
parts_from_escape more [] = []
parts_from_escape more (byte ∷ bytes) = (byte ∷ [], Escape byte) ∷ more bytes

-- `parts` of bytes with at most k escapes in them
abbrev pub parts_within : ℕ → List ℕ → List Part
parts_within zero bytes = []
parts_within (suc k) bytes =
    text_parts (take (utf8_valid_len bytes) bytes)
    ++ parts_from_escape (parts_within k) (drop (utf8_valid_len bytes) bytes)

-- the parts of any bytes: of the longest front that is UTF-8, then an escape, and so on from the
-- byte behind it
unfoldable pub parts : List ℕ → List Part
parts bytes = parts_within (suc (length bytes)) bytes

-- the parts as pieces of a line in which they begin at this byte
abbrev pub pieces_from : ℕ → List Part → List Piece
pieces_from from [] = []
pieces_from from (part ∷ rest) =
    record { from = from; to = from + length part.0; kind = part.1 }
    ∷ pieces_from (from + length part.0) rest

-- the pieces of a line
abbrev pub pieces_of : List ℕ → List Piece
pieces_of line = pieces_from 0 (parts line)

-- the cells that a piece counts for: an escape is written `<xx>` (help: 'display'), and a Tab or a
-- control counts 1 (own rule)
abbrev pub kind_cells : Kind → ℕ
kind_cells Tab = 1
kind_cells (Control _) = 1
kind_cells (Escape _) = 4
kind_cells (Cluster width) = width

-- the cells of parts, added up
abbrev pub parts_cells : List Part → ℕ
parts_cells [] = 0
parts_cells (part ∷ rest) = kind_cells part.1 + parts_cells rest

-- the cells of a text (help: nvim_strwidth())
abbrev pub strwidth_of : List ℕ → ℕ
strwidth_of text = parts_cells (parts text)
