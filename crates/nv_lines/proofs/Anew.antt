-- Lemmas on chunks of a region that were made anew.
use Rattle.std.proofs.Common.{◌≡◌, ℕ, ◌+◌, ◌-◌, ◌<◌, ◌≤◌, zero, suc, List, [], ◌∷◌, ◌++◌, length, take, drop, get_or, set, refl, sym, ap, ◌∙◌, subst, arith, All, slice_range, Result, Ok, Err, OnErr}
use Rattle.std.proofs.lemmas.List.{append-nil, set_split, drop_more}
use Rattle.std.specs.List.{splice}
use Rattle.nv_places.specs.Flat.{flat}
use Rattle.nv_lines.specs.Chunks.{chunk_lines, IsChunk}
use Rattle.nv_lines.specs.inside.Starts.{IsStart}
use Rattle.nv_lines.specs.inside.Edits.{rows_after, IsCutAnew}
use Rattle.nv_lines.specs.declared.chunk.Chunk.{Chunk}
use Rattle.nv_lines.specs.declared.finding.Start.{Start}
use Rattle.nv_lines.proofs.FlatLengths.{length-flat-append}
use Rattle.nv_lines.proofs.Chunks.{chunk_lines-append, joined_parts, length-chunk_lines-range}
use Rattle.nv_lines.proofs.Ranges.{splice_inside, slice_range-inside, length-splice}
use Rattle.nv_lines.proofs.Splices.{All-splice}
use Rattle.nv_lines.proofs.Cuts.{cut_one}

-- a region has the rows between its starts
pub region_rows : (cs : List Chunk) (first end : Start) → IsStart cs first → IsStart cs end → first.chunk ≤ end.chunk
    → first.row + length (chunk_lines (slice_range cs first.chunk end.chunk)) ≡ end.row
region_rows cs first end is it order =
    omega (arith, is.row, it.row, length-chunk_lines-range cs first.chunk end.chunk order)

-- rows that lie in a region are replaced in its lines
pub text_inside : (cs : List Chunk) (first end : Start) (from to : ℕ) (new : List (List ℕ)) → IsStart cs first → IsStart cs end
    → first.chunk ≤ end.chunk → first.row ≤ from → from ≤ to → to ≤ end.row
    → splice (chunk_lines cs) from to new
    ≡ chunk_lines (take first.chunk cs)
    ++ (splice (chunk_lines (slice_range cs first.chunk end.chunk)) (from - first.row) (to - first.row) new ++ chunk_lines (drop end.chunk cs))
text_inside cs first end from to new is it chunks low order high =
    ap (λ l. splice l from to new) (joined_parts cs first.chunk end.chunk chunks)
    ∙ splice_inside (chunk_lines (take first.chunk cs)) (chunk_lines (slice_range cs first.chunk end.chunk)) (chunk_lines (drop end.chunk cs)) new first.row from to
    is.row low order (omega (arith, region_rows cs first end is it chunks))

-- the text afterwards
pub text_anew : (old new : List Chunk) (first end : Start) (from to : ℕ) (lines : List (List ℕ)) → IsStart old first → IsStart old end
    → first.chunk ≤ end.chunk → first.row ≤ from → from ≤ to → to ≤ end.row → IsCutAnew old new first end from to lines
    → chunk_lines new ≡ splice (chunk_lines old) from to lines
text_anew old new first end from to lines is it chunks low order high anew =
    ap chunk_lines anew.is
    ∙ chunk_lines-append (take first.chunk old) (anew.chunks ++ drop end.chunk old)
    ∙ ap (λ l. chunk_lines (take first.chunk old) ++ l) (chunk_lines-append anew.chunks (drop end.chunk old))
    ∙ ap (λ l. chunk_lines (take first.chunk old) ++ (l ++ chunk_lines (drop end.chunk old))) anew.cut.text
    ∙ sym (text_inside old first end from to lines is it chunks low order high)

-- how many lines a region has afterwards
pub rows_anew : (cs : List Chunk) (first end : Start) (from to : ℕ) (new : List (List ℕ)) → IsStart cs first → IsStart cs end
    → first.chunk ≤ end.chunk → first.row ≤ from → from ≤ to → to ≤ end.row
    → length (splice (chunk_lines (slice_range cs first.chunk end.chunk)) (from - first.row) (to - first.row) new)
    ≡ rows_after first end from to (length new)
rows_anew cs first end from to new is it chunks low order high =
    omega (
      arith,
      region_rows cs first end is it chunks,
      length-splice (chunk_lines (slice_range cs first.chunk end.chunk)) new (from - first.row) (to - first.row) (omega arith)
          (omega (arith, region_rows cs first end is it chunks)),
    )

-- the flat text of a region afterwards is no longer than all of it
pub bytes_anew : (cs : List Chunk) (first end : Start) (from to : ℕ) (new : List (List ℕ)) → IsStart cs first → IsStart cs end
    → first.chunk ≤ end.chunk → first.row ≤ from → from ≤ to → to ≤ end.row
    → length (flat (splice (chunk_lines (slice_range cs first.chunk end.chunk)) (from - first.row) (to - first.row) new))
    ≤ length (flat (splice (chunk_lines cs) from to new))
bytes_anew cs first end from to new is it chunks low order high =
    let inner = splice (chunk_lines (slice_range cs first.chunk end.chunk)) (from - first.row) (to - first.row) new in
    omega (
      arith,
      ap (λ l. length (flat l)) (text_inside cs first end from to new is it chunks low order high),
      length-flat-append (chunk_lines (take first.chunk cs)) (inner ++ chunk_lines (drop end.chunk cs)),
      length-flat-append inner (chunk_lines (drop end.chunk cs)),
    )

-- rows that lie in a region are rows of its lines
pub rows_inside : (cs : List Chunk) (first end : Start) (from to : ℕ) → IsStart cs first → IsStart cs end → first.chunk ≤ end.chunk
    → first.row ≤ from → to ≤ end.row
    → slice_range (chunk_lines cs) from to
    ≡ slice_range (chunk_lines (slice_range cs first.chunk end.chunk)) (from - first.row) (to - first.row)
rows_inside cs first end from to is it chunks low high =
    ap (λ l. slice_range l from to) (joined_parts cs first.chunk end.chunk chunks)
    ∙ slice_range-inside (chunk_lines (take first.chunk cs)) (chunk_lines (slice_range cs first.chunk end.chunk)) (chunk_lines (drop end.chunk cs)) first.row from
    to is.row low (omega (arith, region_rows cs first end is it chunks))

-- each chunk afterwards
pub each_anew : (old new : List Chunk) (first end : Start) (from to : ℕ) (lines : List (List ℕ)) → All IsChunk old
    → IsCutAnew old new first end from to lines → All IsChunk new
each_anew old new first end from to lines each anew =
    subst (All IsChunk) (sym anew.is) (All-splice IsChunk old anew.chunks first.chunk end.chunk each anew.cut.each)

-- the lines of a region that is one chunk
pub one_in_range : (old : List Chunk) (first end : Start) (c : Chunk) → IsStart old end → first.chunk + 1 ≡ end.chunk
    → c ≡ get_or old first.chunk c → chunk_lines (slice_range old first.chunk end.chunk) ≡ c.lines
one_in_range old first end c it one looked =
    let there : first.chunk < length old = omega (arith, it.within) in
    let width : end.chunk - first.chunk ≡ suc zero = omega arith in
    ap (λ n. chunk_lines (take n (drop first.chunk old))) width
    ∙ ap (λ (l : List Chunk). chunk_lines (take (suc zero) l)) (drop_more old first.chunk c there)
    ∙ append-nil (get_or old first.chunk c).lines
    ∙ ap (λ (e : Chunk). e.lines) (sym looked)

-- one chunk, in place of which its lines come with some of them replaced
pub anew_in_chunk : (old new : List Chunk) (first end : Start) (c d : Chunk) (from to : ℕ) (lines : List (List ℕ)) → IsStart old first
    → IsStart old end → first.chunk + 1 ≡ end.chunk → first.row ≤ from → from ≤ to → to ≤ end.row
    → 0 < rows_after first end from to (length lines) → rows_after first end from to (length lines) ≤ 64 → c ≡ get_or old first.chunk c
    → new ≡ set old first.chunk d → d.lines ≡ splice c.lines (from - first.row) (to - first.row) lines → d.bytes ≡ length (flat d.lines)
    → IsCutAnew old new first end from to lines
anew_in_chunk old new first end c d from to lines is it one low order high some most looked put text bytes =
    let only : chunk_lines (slice_range old first.chunk end.chunk) ≡ c.lines = one_in_range old first end c it one looked in
    let there : first.chunk < length old = omega (arith, it.within) in
    let same : splice (chunk_lines (slice_range old first.chunk end.chunk)) (from - first.row) (to - first.row) lines ≡ d.lines =
    ap (λ l. splice l (from - first.row) (to - first.row) lines) only ∙ sym text in
    let count : length d.lines ≡ rows_after first end from to (length lines) =
    sym (ap length same) ∙ rows_anew old first end from to lines is it (omega arith) low order high in
    let chunk : IsChunk d = record { some = omega arith; most = omega arith; bytes = bytes } in
    let place : suc first.chunk ≡ end.chunk = omega arith in record {
      chunks = d ∷ [];
      is =
          put
          ∙ set_split old first.chunk d there
          ∙ ap (λ n. take first.chunk old ++ d ∷ drop n old) place;
      cut = cut_one [] d (splice (chunk_lines (slice_range old first.chunk end.chunk)) (from - first.row) (to - first.row) lines) refl chunk
          (append-nil d.lines ∙ sym same);
    }

-- chunks with the same lines and bytes are the same
pub chunk_same : (c d : Chunk) → c.lines ≡ d.lines → c.bytes ≡ d.bytes → c ≡ d
chunk_same c d e f =
    let put_lines : List (List ℕ) → Chunk = λ l. record { lines = l; bytes = c.bytes } in
    let put_bytes : ℕ → Chunk = λ b. record { lines = d.lines; bytes = b } in
    ap put_lines e ∙ ap put_bytes f

pub on_err : {T E : Type 0} (r : Result T E) {X : Type 0} → X → OnErr r X
on_err (Ok v) x = tt
on_err (Err e) x = x
