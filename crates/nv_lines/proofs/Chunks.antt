-- Lemmas on chunks, and on what stands before them.
use Rattle.std.proofs.Common.{◌≡◌, ℕ, ◌+◌, ◌-◌, ◌<◌, ◌≤◌, zero, suc, List, [], ◌∷◌, ◌++◌, length, take, drop, get_or, refl, sym, ap, ◌∙◌, subst, append_assoc, arith, length-append, slice_range, All}
use Rattle.std.proofs.lemmas.List.{append-nil, take-append-drop, take_all, take_more, drop_more}
use Rattle.std.proofs.lemmas.List.Elements.{All-get_or}
use Rattle.std.specs.List.{splice}
use Rattle.nv_places.specs.Flat.{flat}
use Rattle.nv_lines.specs.Chunks.{chunk_lines, chunk_sizes, IsChunk}
use Rattle.nv_lines.specs.inside.Starts.{rows_before, bytes_before}
use Rattle.nv_lines.specs.declared.chunk.Chunk.{Chunk}
use Rattle.nv_lines.proofs.FlatLengths.{length-flat-append}
use Rattle.nv_lines.proofs.Ranges.{three_parts, take-splice, take_further}

pub chunk_lines-append : (a b : List Chunk) → chunk_lines (a ++ b) ≡ chunk_lines a ++ chunk_lines b
chunk_lines-append [] b = refl
chunk_lines-append (c ∷ a) b = ap (λ l. c.lines ++ l) (chunk_lines-append a b) ∙ sym (append_assoc c.lines (chunk_lines a) (chunk_lines b))

-- a text has no more lines than bytes
pub length-flat-le : (lines : List (List ℕ)) → length lines ≤ length (flat lines)
length-flat-le [] = omega arith
length-flat-le (line ∷ lines) = omega (arith, length-flat-le lines, length-append line (10 ∷ flat lines))

-- all lines as those of the chunks up to a number and of those from there on
pub joined_halves : (cs : List Chunk) (n : ℕ) → chunk_lines cs ≡ chunk_lines (take n cs) ++ chunk_lines (drop n cs)
joined_halves cs n = ap chunk_lines (sym (take-append-drop n cs)) ∙ chunk_lines-append (take n cs) (drop n cs)

pub rows_before-le : (cs : List Chunk) (n : ℕ) → rows_before cs n ≤ length (chunk_lines cs)
rows_before-le cs n = omega (arith, ap length (joined_halves cs n), length-append (chunk_lines (take n cs)) (chunk_lines (drop n cs)))

pub bytes_before-le : (cs : List Chunk) (n : ℕ) → bytes_before cs n ≤ length (flat (chunk_lines cs))
bytes_before-le cs n =
    omega (arith, ap (λ l. length (flat l)) (joined_halves cs n), length-flat-append (chunk_lines (take n cs)) (chunk_lines (drop n cs)))

pub rows_before-all : (cs : List Chunk) (n : ℕ) → length cs ≤ n → rows_before cs n ≡ length (chunk_lines cs)
rows_before-all cs n h = ap (λ l. length (chunk_lines l)) (take_all n cs h)

pub bytes_before-all : (cs : List Chunk) (n : ℕ) → length cs ≤ n → bytes_before cs n ≡ length (flat (chunk_lines cs))
bytes_before-all cs n h = ap (λ l. length (flat (chunk_lines l))) (take_all n cs h)

-- the lines up to the end of a chunk
pub joined_more : (cs : List Chunk) (n : ℕ) (c : Chunk) → n < length cs → c ≡ get_or cs n c
    → chunk_lines (take (n + 1) cs) ≡ chunk_lines (take n cs) ++ c.lines
joined_more cs n c within is =
    ap chunk_lines (take_more cs n c within)
    ∙ ap (λ (d : Chunk). chunk_lines (take n cs ++ d ∷ [])) (sym is)
    ∙ chunk_lines-append (take n cs) (c ∷ [])
    ∙ ap (λ l. chunk_lines (take n cs) ++ l) (append-nil c.lines)

pub rows_before-more : (cs : List Chunk) (n : ℕ) (c : Chunk) → n < length cs → c ≡ get_or cs n c
    → rows_before cs (n + 1) ≡ rows_before cs n + length c.lines
rows_before-more cs n c within is = ap length (joined_more cs n c within is) ∙ length-append (chunk_lines (take n cs)) c.lines

pub bytes_before-more : (cs : List Chunk) (n : ℕ) (c : Chunk) → n < length cs → c ≡ get_or cs n c
    → bytes_before cs (n + 1) ≡ bytes_before cs n + length (flat c.lines)
bytes_before-more cs n c within is =
    ap (λ l. length (flat l)) (joined_more cs n c within is) ∙ length-flat-append (chunk_lines (take n cs)) c.lines

-- what is known of each chunk is known of one that was looked at
pub chunk_is : (cs : List Chunk) (n : ℕ) (c : Chunk) → All IsChunk cs → n < length cs → c ≡ get_or cs n c → IsChunk c
chunk_is cs n c each within is = subst IsChunk (sym is) (All-get_or IsChunk cs n c within each)

-- all lines around one chunk
pub joined_around : (cs : List Chunk) (n : ℕ) (c : Chunk) → n < length cs → c ≡ get_or cs n c
    → chunk_lines cs ≡ chunk_lines (take n cs) ++ (c.lines ++ chunk_lines (drop (n + 1) cs))
joined_around cs n c within is =
    joined_halves cs n
    ∙ ap (λ (l : List Chunk). chunk_lines (take n cs) ++ chunk_lines l) (drop_more cs n c within)
    ∙ ap (λ (d : Chunk). chunk_lines (take n cs) ++ (d.lines ++ chunk_lines (drop (n + 1) cs))) (sym is)

-- all lines around some chunks
pub joined_parts : (cs : List Chunk) (first end : ℕ) → first ≤ end
    → chunk_lines cs ≡ chunk_lines (take first cs) ++ (chunk_lines (slice_range cs first end) ++ chunk_lines (drop end cs))
joined_parts cs first end order =
    ap chunk_lines (three_parts cs first end order)
    ∙ chunk_lines-append (take first cs) (slice_range cs first end ++ drop end cs)
    ∙ ap (λ l. chunk_lines (take first cs) ++ l) (chunk_lines-append (slice_range cs first end) (drop end cs))

-- how many lines some chunks have
pub length-chunk_lines-range : (cs : List Chunk) (first end : ℕ) → first ≤ end
    → rows_before cs first + length (chunk_lines (slice_range cs first end)) ≡ rows_before cs end
length-chunk_lines-range cs first end order =
    omega (
      arith,
      ap length (joined_parts cs first end order),
      length-append (chunk_lines (take first cs)) (chunk_lines (slice_range cs first end) ++ chunk_lines (drop end cs)),
      length-append (chunk_lines (slice_range cs first end)) (chunk_lines (drop end cs)),
      ap length (joined_halves cs end),
      length-append (chunk_lines (take end cs)) (chunk_lines (drop end cs)),
    )

-- a chunk's place among the chunk_sizes
pub rows_before-size : (cs : List Chunk) (n : ℕ) → n < length cs → rows_before cs (n + 1) ≡ rows_before cs n + get_or (chunk_sizes cs) n 0
rows_before-size [] n within = elim within [ ]
rows_before-size (c ∷ cs) zero within =
    let here : rows_before (c ∷ cs) (zero + 1) ≡ length (c.lines ++ []) = refl in
    let none : rows_before (c ∷ cs) zero ≡ 0 = refl in
    let size : get_or (chunk_sizes (c ∷ cs)) zero 0 ≡ length c.lines = refl in
    omega (arith, ap length (append-nil c.lines))
rows_before-size (c ∷ cs) (suc n) within =
    let next : suc n + 1 ≡ suc (n + 1) = omega arith in
    let here : rows_before (c ∷ cs) (suc n + 1) ≡ length (c.lines ++ chunk_lines (take (n + 1) cs)) = ap (rows_before (c ∷ cs)) next in
    let there : rows_before (c ∷ cs) (suc n) ≡ length (c.lines ++ chunk_lines (take n cs)) = refl in
    let size : get_or (chunk_sizes (c ∷ cs)) (suc n) 0 ≡ get_or (chunk_sizes cs) n 0 = refl in
    omega (
      arith,
      rows_before-size cs n (omega arith),
      length-append c.lines (chunk_lines (take (n + 1) cs)),
      length-append c.lines (chunk_lines (take n cs)),
    )

-- the lines of the chunks up to a number, and of those up to a later one
pub joined_further : (cs : List Chunk) (m n : ℕ) → m ≤ n → chunk_lines (take n cs) ≡ chunk_lines (take m cs) ++ chunk_lines (take (n - m) (drop m cs))
joined_further cs m n h = ap chunk_lines (take_further cs m n h) ∙ chunk_lines-append (take m cs) (take (n - m) (drop m cs))

pub rows_before-order : (cs : List Chunk) (m n : ℕ) → m ≤ n → rows_before cs m ≤ rows_before cs n
rows_before-order cs m n h =
    omega (arith, ap length (joined_further cs m n h), length-append (chunk_lines (take m cs)) (chunk_lines (take (n - m) (drop m cs))))

pub bytes_before-order : (cs : List Chunk) (m n : ℕ) → m ≤ n → bytes_before cs m ≤ bytes_before cs n
bytes_before-order cs m n h =
    omega (
      arith,
      ap (λ l. length (flat l)) (joined_further cs m n h),
      length-flat-append (chunk_lines (take m cs)) (chunk_lines (take (n - m) (drop m cs))),
    )

chunk_lines-take-anew : (cs made : List Chunk) (first end n : ℕ) → first ≤ end → end ≤ length cs → end ≤ n
    → chunk_lines (take (n - end + (first + length made)) (splice cs first end made))
    ≡ chunk_lines (take first cs) ++ (chunk_lines made ++ chunk_lines (take (n - end) (drop end cs)))
chunk_lines-take-anew cs made first end n order within past =
    ap chunk_lines (take-splice cs made first end n order within past)
    ∙ chunk_lines-append (take first cs) (made ++ take (n - end) (drop end cs))
    ∙ ap (λ l. chunk_lines (take first cs) ++ l) (chunk_lines-append made (take (n - end) (drop end cs)))

-- what stands before a chunk behind chunks that were made anew
pub rows_before-anew : (cs made : List Chunk) (first end n : ℕ) → first ≤ end → end ≤ length cs → end ≤ n
    → rows_before (splice cs first end made) (n - end + (first + length made)) + rows_before cs end
    ≡ rows_before cs n + (rows_before cs first + length (chunk_lines made))
rows_before-anew cs made first end n order within past =
    let here : chunk_lines (take (n - end + (first + length made)) (splice cs first end made))
    ≡ chunk_lines (take first cs) ++ (chunk_lines made ++ chunk_lines (take (n - end) (drop end cs))) =
    chunk_lines-take-anew cs made first end n order within past in
    let there : chunk_lines (take n cs) ≡ chunk_lines (take end cs) ++ chunk_lines (take (n - end) (drop end cs)) = joined_further cs end n past in
    omega (
      arith,
      ap length here,
      ap length there,
      length-append (chunk_lines (take first cs)) (chunk_lines made ++ chunk_lines (take (n - end) (drop end cs))),
      length-append (chunk_lines made) (chunk_lines (take (n - end) (drop end cs))),
      length-append (chunk_lines (take end cs)) (chunk_lines (take (n - end) (drop end cs))),
    )

pub bytes_before-anew : (cs made : List Chunk) (first end n : ℕ) → first ≤ end → end ≤ length cs → end ≤ n
    → bytes_before (splice cs first end made) (n - end + (first + length made)) + bytes_before cs end
    ≡ bytes_before cs n + (bytes_before cs first + length (flat (chunk_lines made)))
bytes_before-anew cs made first end n order within past =
    let here : chunk_lines (take (n - end + (first + length made)) (splice cs first end made))
    ≡ chunk_lines (take first cs) ++ (chunk_lines made ++ chunk_lines (take (n - end) (drop end cs))) =
    chunk_lines-take-anew cs made first end n order within past in
    let there : chunk_lines (take n cs) ≡ chunk_lines (take end cs) ++ chunk_lines (take (n - end) (drop end cs)) = joined_further cs end n past in
    omega (
      arith,
      ap (λ l. length (flat l)) here,
      ap (λ l. length (flat l)) there,
      length-flat-append (chunk_lines (take first cs)) (chunk_lines made ++ chunk_lines (take (n - end) (drop end cs))),
      length-flat-append (chunk_lines made) (chunk_lines (take (n - end) (drop end cs))),
      length-flat-append (chunk_lines (take end cs)) (chunk_lines (take (n - end) (drop end cs))),
    )
