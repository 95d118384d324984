-- Lemmas on rows and offsets in one chunk, and in the whole text.
use Rattle.std.proofs.Common.{◌≡◌, ℕ, ◌+◌, ◌-◌, ◌<◌, ◌≤◌, List, [], ◌++◌, length, take, drop, get_or, sym, ap, ◌∙◌, arith, length-append, inl, inr, slice_get, Option, Some, None, IsSome, IfSome, MatchOption, option_copied, Bor, rules}
use Rattle.std.proofs.lemmas.Bool.{cases_lt}
use Rattle.std.proofs.lemmas.List.{take_all, take-append-le, get_or-append_right, get_or_append_left}
use Rattle.std.proofs.lemmas.Option.{slice_get-get_or}
use Rattle.nv_places.specs.Flat.{flat, row_start}
use Rattle.nv_lines.specs.Text.{IsRowAt}
use Rattle.nv_lines.specs.Chunks.{chunk_lines}
use Rattle.nv_lines.specs.inside.Starts.{rows_before, bytes_before, IsStart}
use Rattle.nv_lines.specs.declared.chunk.Chunk.{Chunk}
use Rattle.nv_lines.specs.declared.finding.Start.{Start}
use Rattle.nv_lines.proofs.FlatLengths.{length-flat-append, row_start-le}
use Rattle.nv_lines.proofs.Chunks.{joined_around, rows_before-more, bytes_before-more, length-flat-le}
use Rattle.nv_lines.proofs.Ranges.{take-append}

-- what a chunk was found for lies in it
pub row_inside : (cs : List Chunk) (s : Start) (c : Chunk) (row : ℕ) → IsStart cs s → s.chunk < length cs → c ≡ get_or cs s.chunk c
    → row < rows_before cs (s.chunk + 1) → s.row ≤ row → row - s.row < length c.lines
row_inside cs s c row is within looked ends begins = omega (arith, is.row, rows_before-more cs s.chunk c within looked)

pub offset_inside : (cs : List Chunk) (s : Start) (c : Chunk) (offset : ℕ) → IsStart cs s → s.chunk < length cs → c ≡ get_or cs s.chunk c
    → offset < bytes_before cs (s.chunk + 1) → s.offset ≤ offset → offset - s.offset < length (flat c.lines)
offset_inside cs s c offset is within looked ends begins = omega (arith, is.offset, bytes_before-more cs s.chunk c within looked)

-- the line of a row is that of the chunk
pub line_in_chunk : (cs : List Chunk) (s : Start) (c : Chunk) (row : ℕ) → IsStart cs s → s.chunk < length cs → c ≡ get_or cs s.chunk c
    → s.row ≤ row → row - s.row < length c.lines → slice_get c.lines (row - s.row) ≡ slice_get (chunk_lines cs) row
line_in_chunk cs s c row is within looked begins inside =
    let front = chunk_lines (take s.chunk cs) in
    let back = chunk_lines (drop (s.chunk + 1) cs) in
    let all : chunk_lines cs ≡ front ++ (c.lines ++ back) = joined_around cs s.chunk c within looked in
    let high : row < length (front ++ (c.lines ++ back)) =
    omega (arith, length-append front (c.lines ++ back), length-append c.lines back, is.row) in
    let there : get_or (front ++ (c.lines ++ back)) row [] ≡ get_or c.lines (row - s.row) [] =
    get_or-append_right front (c.lines ++ back) s.row row [] (sym is.row) begins
    ∙ get_or_append_left c.lines back [] (row - s.row) inside in
    slice_get-get_or c.lines (row - s.row) [] inside
    ∙ ap Some (sym there)
    ∙ sym (slice_get-get_or (front ++ (c.lines ++ back)) row [] high)
    ∙ ap (λ l. slice_get l row) (sym all)

-- the offset of a row is that of the chunk and that in the chunk
pub row_start_in_chunk : (cs : List Chunk) (s : Start) (c : Chunk) (n : ℕ) → IsStart cs s → s.chunk < length cs → c ≡ get_or cs s.chunk c
    → n ≤ length c.lines → row_start (chunk_lines cs) (s.row + n) ≡ s.offset + row_start c.lines n
row_start_in_chunk cs s c n is within looked inside =
    let front = chunk_lines (take s.chunk cs) in
    let back = chunk_lines (drop (s.chunk + 1) cs) in
    let rows : take (s.row + n) (chunk_lines cs) ≡ front ++ take n c.lines =
    ap (take (s.row + n)) (joined_around cs s.chunk c within looked)
    ∙ take-append (s.row + n) front (c.lines ++ back)
    ∙ ap (λ l. l ++ take (s.row + n - length front) (c.lines ++ back)) (take_all (s.row + n) front (omega (arith, is.row)))
    ∙ ap (λ m. front ++ take m (c.lines ++ back)) (let same : s.row + n - length front ≡ n = omega (arith, is.row) in same)
    ∙ ap (λ l. front ++ l) (take-append-le n c.lines back inside) in
    omega (arith, ap (λ l. length (flat l)) rows, length-flat-append front (take n c.lines), is.offset)

-- the row of an offset in a chunk gives that in the whole text
pub row_in_chunk : (cs : List Chunk) (s : Start) (c : Chunk) (offset row : ℕ) → IsStart cs s → s.chunk < length cs → c ≡ get_or cs s.chunk c
    → s.offset ≤ offset → offset - s.offset < length (flat c.lines) → IsRowAt c.lines (offset - s.offset) row
    → IsRowAt (chunk_lines cs) offset (s.row + row)
row_in_chunk cs s c offset row is within looked begins inside at =
    let low : row < length c.lines =
    elim (cases_lt row (length c.lines)) [
      | inl h ↦ h
      | inr h ↦ absurd (omega (arith, at.begins, ap (λ l. length (flat l)) (take_all row c.lines h)))
    ] in
    let all = joined_around cs s.chunk c within looked in record {
      within =
          omega (
            arith,
            is.row,
            ap length all,
            length-append (chunk_lines (take s.chunk cs)) (c.lines ++ chunk_lines (drop (s.chunk + 1) cs)),
            length-append c.lines (chunk_lines (drop (s.chunk + 1) cs)),
          );
      begins = omega (arith, at.begins, row_start_in_chunk cs s c row is within looked (omega arith));
      ends = λ _.
          let next : s.row + (row + 1) ≡ s.row + row + 1 = omega arith in
          omega (
            arith,
            at.ends low,
            row_start_in_chunk cs s c (row + 1) is within looked (omega arith),
            ap (row_start (chunk_lines cs)) next,
          );
    }

-- a row behind a chunk's start fits
pub row_sum_fits : (cs : List Chunk) (s : Start) (c : Chunk) (row : ℕ) → IsStart cs s → s.chunk < length cs → c ≡ get_or cs s.chunk c
    → row ≤ length c.lines → s.row + row ≤ length (flat (chunk_lines cs))
row_sum_fits cs s c row is within looked inside =
    let all = joined_around cs s.chunk c within looked in
    omega (
      arith,
      is.row,
      ap length all,
      length-append (chunk_lines (take s.chunk cs)) (c.lines ++ chunk_lines (drop (s.chunk + 1) cs)),
      length-append c.lines (chunk_lines (drop (s.chunk + 1) cs)),
      length-flat-le (chunk_lines cs),
    )

-- so do the bytes of a chunk's front behind its start
pub offset_sum_fits : (cs : List Chunk) (s : Start) (c : Chunk) (n : ℕ) → IsStart cs s → s.chunk < length cs → c ≡ get_or cs s.chunk c
    → n ≤ length c.lines → s.offset + row_start c.lines n ≤ length (flat (chunk_lines cs))
offset_sum_fits cs s c n is within looked inside =
    omega (arith, row_start_in_chunk cs s c n is within looked inside, row_start-le (chunk_lines cs) (s.row + n))

-- the bytes of rows in a chunk are those in the whole text
pub span_in_chunk : (cs : List Chunk) (s : Start) (c : Chunk) (from to : ℕ) (o : Option ℕ) → IsStart cs s → s.chunk < length cs
    → c ≡ get_or cs s.chunk c → s.row ≤ from → from ≤ to
    → MatchOption o (length c.lines < to - s.row)
    (λ n. (to - s.row ≤ length c.lines) × (row_start c.lines (from - s.row) + n ≡ row_start c.lines (to - s.row)))
    → IfSome o (λ n. row_start (chunk_lines cs) from + n ≡ row_start (chunk_lines cs) to)
span_in_chunk cs s c from to None is within looked begins order found = tt
span_in_chunk cs s c from to (Some n) is within looked begins order found =
    let first : s.row + (from - s.row) ≡ from = omega (arith, begins) in
    let last : s.row + (to - s.row) ≡ to = omega (arith, begins, order) in
    omega (
      arith,
      found.1,
      row_start_in_chunk cs s c (from - s.row) is within looked (omega (arith, order, found.0)),
      row_start_in_chunk cs s c (to - s.row) is within looked found.0,
      ap (row_start (chunk_lines cs)) first,
      ap (row_start (chunk_lines cs)) last,
    )

-- what a reference lends is there
pub some_copied : {T : Type 0} (r : Option (Bor T)) (x : T) → option_copied r ≡ Some x → IsSome r
some_copied None x e = absurd (cc)
some_copied (Some b) x e = search rules
