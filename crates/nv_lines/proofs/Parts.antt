-- Lemmas on parts of the lines of chunks that are gathered one chunk after another.
use Rattle.std.proofs.Common.{◌≡◌, ℕ, ◌+◌, ◌-◌, ◌<◌, ◌≤◌, zero, suc, List, [], ◌∷◌, ◌++◌, length, take, drop, get_or, sym, ap, ◌∙◌, arith, length-append, length-take, slice_range, ◌⊎◌, inl, inr, append_assoc}
use Rattle.std.proofs.lemmas.List.{append-nil, take_all, drop_all, drop_more, take_rest}
use Rattle.std.specs.List.{splice}
use Rattle.nv_lines.specs.Chunks.{chunk_lines}
use Rattle.nv_lines.specs.inside.Starts.{rows_before}
use Rattle.nv_lines.specs.declared.chunk.Chunk.{Chunk}
use Rattle.nv_lines.proofs.Chunks.{joined_halves}
use Rattle.nv_lines.proofs.Ranges.{slice_range-append, slice_range-behind}

-- the part that ends at once is empty
pub slice_range-none : {X : Type 0} (xs : List X) (start end : ℕ) → end ≡ 0 → slice_range xs start end ≡ []
slice_range-none xs start end e =
    ap (λ n. take n (drop start xs)) (let none : end - start ≡ 0 = omega arith in none)

pub slice_range-nil : {X : Type 0} (start end : ℕ) → slice_range {X = X} [] start end ≡ []
slice_range-nil start end = ap (take (end - start)) (drop_all start [] (omega arith)) ∙ take_all (end - start) [] (omega arith)

-- the part of the chunks that are left: that of the next one, and that of those behind it
pub part_more : (cs : List Chunk) (n : ℕ) (c : Chunk) (start end : ℕ) → n < length cs → c ≡ get_or cs n c
    → slice_range (chunk_lines (drop n cs)) start end
    ≡ slice_range c.lines start end ++ slice_range (chunk_lines (drop (n + 1) cs)) (start - length c.lines) (end - length c.lines)
part_more cs n c start end within looked =
    ap (λ (l : List Chunk). slice_range (chunk_lines l) start end) (drop_more cs n c within)
    ∙ ap (λ (d : Chunk). slice_range (d.lines ++ chunk_lines (drop (n + 1) cs)) start end) (sym looked)
    ∙ slice_range-append c.lines (chunk_lines (drop (n + 1) cs)) start end

-- no chunk is left
pub part_end : (cs : List Chunk) (n start end : ℕ) → length cs ≤ n → slice_range (chunk_lines (drop n cs)) start end ≡ []
part_end cs n start end past =
    ap (λ (l : List Chunk). slice_range (chunk_lines l) start end) (drop_all n cs past) ∙ slice_range-nil start end

-- of a list whose first element is taken
pub slice_range-first : {X : Type 0} (x : X) (xs : List X) (start end : ℕ) → start ≡ 0 → 0 < end
    → slice_range (x ∷ xs) start end ≡ x ∷ slice_range xs (start - 1) (end - 1)
slice_range-first x xs zero (suc end) e some =
    ap (λ n. take n (x ∷ xs)) (let all : suc end - zero ≡ suc end = omega arith in all)
    ∙ ap (λ n. x ∷ take n xs) (let same : end ≡ suc end - 1 - 0 = omega arith in same)
slice_range-first x xs (suc start) end e some = absurd (let no_number : suc start ≡ 0 = e in omega arith)
slice_range-first x xs zero zero e some = absurd (omega arith)

-- of a list whose first element is not taken
pub slice_range-rest : {X : Type 0} (x : X) (xs : List X) (start end : ℕ) → (0 < start) ⊎ (end ≡ 0)
    → slice_range (x ∷ xs) start end ≡ slice_range xs (start - 1) (end - 1)
slice_range-rest x xs start end (inr e) =
    slice_range-none (x ∷ xs) start end e ∙ sym (slice_range-none xs (start - 1) (end - 1) (omega arith))
slice_range-rest x xs zero end (inl some) = absurd (omega arith)
slice_range-rest x xs (suc start) end (inl some) =
    ap (λ n. take n (drop start xs)) (let same : end - suc start ≡ end - 1 - (suc start - 1) = omega arith in same)
    ∙ ap (λ n. take (end - 1 - (suc start - 1)) (drop n xs)) (let same : start ≡ suc start - 1 = omega arith in same)

pub length-slice_range-le : {X : Type 0} (xs : List X) (start end : ℕ) → length (slice_range xs start end) ≤ end - start
length-slice_range-le xs start end = omega (arith, length-take (end - start) (drop start xs))

pub slice_range-whole : {X : Type 0} (xs : List X) (end : ℕ) → length xs ≤ end → slice_range xs 0 end ≡ xs
slice_range-whole xs end h = take_all (end - 0) xs (omega arith)

-- the rows from a place in a chunk on are those of the chunks from it on
pub part_from : (cs : List Chunk) (n row start end : ℕ) → row ≡ rows_before cs n → row ≤ start
    → slice_range (chunk_lines cs) start end ≡ slice_range (chunk_lines (drop n cs)) (start - row) (end - row)
part_from cs n row start end is low =
    ap (λ l. slice_range l start end) (joined_halves cs n)
    ∙ slice_range-behind (chunk_lines (take n cs)) (chunk_lines (drop n cs)) start end (omega arith)
    ∙ ap (λ m. slice_range (chunk_lines (drop n cs)) (start - m) (end - m)) (sym is)

-- rows replaced: those before them, the new ones, and those behind them
pub parts_are_splice : {X : Type 0} (xs new : List X) (from to : ℕ)
    → (slice_range xs 0 from ++ new) ++ slice_range xs to (length xs) ≡ splice xs from to new
parts_are_splice xs new from to =
    append_assoc (slice_range xs 0 from) new (slice_range xs to (length xs))
    ∙ ap (λ l. slice_range xs 0 from ++ (new ++ l)) (take_rest xs to)
    ∙ ap (λ n. take n xs ++ (new ++ drop to xs)) (let same : from - 0 ≡ from = omega arith in same)

pub splice-whole : {X : Type 0} (xs new : List X) (to : ℕ) → to ≡ length xs → splice xs 0 to new ≡ new
splice-whole xs new to e = ap (λ l. new ++ l) (drop_all to xs (omega arith)) ∙ append-nil new

-- one chunk more of the rows that are gathered
pub rows_gathered : (cs : List Chunk) (n : ℕ) (c : Chunk) (start end start_next end_next : ℕ) (list list_next all : List (List ℕ))
    → list ++ slice_range (chunk_lines (drop n cs)) start end ≡ all → n < length cs → c ≡ get_or cs n c
    → list_next ≡ list ++ slice_range c.lines start end → start_next ≡ start - length c.lines → end_next ≡ end - length c.lines
    → list_next ++ slice_range (chunk_lines (drop (n + 1) cs)) start_next end_next ≡ all
rows_gathered cs n c start end start_next end_next list list_next all is within looked more e f =
    ap (λ l. l ++ slice_range (chunk_lines (drop (n + 1) cs)) start_next end_next) more
    ∙ append_assoc list (slice_range c.lines start end) (slice_range (chunk_lines (drop (n + 1) cs)) start_next end_next)
    ∙ ap (λ m. list ++ (slice_range c.lines start end ++ slice_range (chunk_lines (drop (n + 1) cs)) m end_next)) e
    ∙ ap (λ m. list ++ (slice_range c.lines start end ++ slice_range (chunk_lines (drop (n + 1) cs)) (start - length c.lines) m)) f
    ∙ ap (λ l. list ++ l) (sym (part_more cs n c start end within looked))
    ∙ is

-- one line more of the rows that are moved
pub row_moved : (x : List ℕ) (xs before : List (List ℕ)) (start end start_next end_next : ℕ) (list list_next all : List (List ℕ))
    → list ++ slice_range before start end ≡ all → before ≡ x ∷ xs → start ≡ 0 → 0 < end → list_next ≡ list ++ x ∷ []
    → start_next ≡ start - 1 → end_next ≡ end - 1 → list_next ++ slice_range xs start_next end_next ≡ all
row_moved x xs before start end start_next end_next list list_next all is parts none some more e f =
    ap (λ l. l ++ slice_range xs start_next end_next) more
    ∙ append_assoc list (x ∷ []) (slice_range xs start_next end_next)
    ∙ ap (λ m. list ++ (x ∷ slice_range xs m end_next)) e
    ∙ ap (λ m. list ++ (x ∷ slice_range xs (start - 1) m)) f
    ∙ ap (λ l. list ++ l) (sym (slice_range-first x xs start end none some))
    ∙ ap (λ l. list ++ slice_range l start end) (sym parts)
    ∙ is

-- one line that is not moved
pub row_passed : (x : List ℕ) (xs before : List (List ℕ)) (start end start_next end_next : ℕ) (list all : List (List ℕ))
    → list ++ slice_range before start end ≡ all → before ≡ x ∷ xs → (0 < start) ⊎ (end ≡ 0) → start_next ≡ start - 1 → end_next ≡ end - 1
    → list ++ slice_range xs start_next end_next ≡ all
row_passed x xs before start end start_next end_next list all is parts passed e f =
    ap (λ m. list ++ slice_range xs m end_next) e
    ∙ ap (λ m. list ++ slice_range xs (start - 1) m) f
    ∙ ap (λ l. list ++ l) (sym (slice_range-rest x xs start end passed))
    ∙ ap (λ l. list ++ slice_range l start end) (sym parts)
    ∙ is

-- how many rows of one list are moved is what they add
pub length-gathered : (list rest all : List (List ℕ)) → list ++ rest ≡ all → length list + length rest ≡ length all
length-gathered list rest all is = omega (arith, ap length is, length-append list rest)
