-- The lines of chunks that were taken out into tables, put back and moved.
use Rattle.std.proofs.Common.{◌≡◌, ℕ, ◌+◌, ◌-◌, ◌<◌, ◌≤◌, zero, suc, List, [], ◌∷◌, ◌++◌, length, map, take, drop, get_or, set, Vec, Global, refl, sym, ap, subst, ◌∙◌, arith, length-append, slice_range, append_assoc, drop-drop}
use Rattle.std.proofs.lemmas.List.{take_all, drop_all, append-nil, length-map, length-take, length-take-le, length-drop, get_or-append_right, get_or-drop, get_or_default, take-append-le}
use Rattle.std.proofs.lemmas.List.Edits.{map_over_more}
use Rattle.std.specs.List.{splice}
use Rattle.nv_lines.specs.Chunks.{chunk_lines}
use Rattle.nv_lines.specs.inside.Tables.{emptied, refilled, table_lines, AreTakenOut}
use Rattle.nv_lines.specs.declared.chunk.Chunk.{Chunk}
use Rattle.nv_lines.proofs.Ranges.{slice_range-append, slice_range-inside, take-append, drop-append, three_parts, length-splice}

-- ---- rows of tables

-- one table more of the rows that are moved
pub table_moved : (t : Vec (List ℕ) Global) (rest before : List (Vec (List ℕ) Global)) (start end start_next end_next : ℕ) (list list_next all : List (List ℕ))
    → list ++ slice_range (table_lines before) start end ≡ all → before ≡ t ∷ rest → list_next ≡ list ++ slice_range t.items start end
    → start_next ≡ start - length t.items → end_next ≡ end - length t.items
    → list_next ++ slice_range (table_lines rest) start_next end_next ≡ all
table_moved t rest before start end start_next end_next list list_next all is parts more e f =
    ap (λ l. l ++ slice_range (table_lines rest) start_next end_next) more
    ∙ append_assoc list (slice_range t.items start end) (slice_range (table_lines rest) start_next end_next)
    ∙ ap (λ m. list ++ (slice_range t.items start end ++ slice_range (table_lines rest) m end_next)) e
    ∙ ap (λ m. list ++ (slice_range t.items start end ++ slice_range (table_lines rest) (start - length t.items) m)) f
    ∙ ap (λ l. list ++ l) (sym (slice_range-append t.items (table_lines rest) start end))
    ∙ ap (λ (l : List (Vec (List ℕ) Global)). list ++ slice_range (table_lines l) start end) (sym parts)
    ∙ is

-- those of the first table are no more than all
pub first_within : (t : Vec (List ℕ) Global) (rest before : List (Vec (List ℕ) Global)) (start end : ℕ) → before ≡ t ∷ rest
    → length (slice_range t.items start end) ≤ length (slice_range (table_lines before) start end)
first_within t rest before start end parts =
    omega (
      arith,
      ap (λ (l : List (Vec (List ℕ) Global)). length (slice_range (table_lines l) start end)) parts,
      ap length (slice_range-append t.items (table_lines rest) start end),
      length-append (slice_range t.items start end) (slice_range (table_lines rest) (start - length t.items) (end - length t.items)),
    )

-- ---- lines taken out of chunks

-- the chunk that comes next still has its lines
next_chunk : (cs left : List Chunk) (i : ℕ) (d : Chunk) → i < length cs → left ≡ map emptied (take i cs) ++ drop i cs → get_or left i d ≡ get_or cs i d
next_chunk cs left i d within is =
    let len : length (map emptied (take i cs)) ≡ i = length-map (take i cs) emptied ∙ length-take-le i cs (omega arith) in
    let here : i - i ≡ 0 = omega arith in
    let there : i + 0 ≡ i = omega arith in
    ap (λ (l : List Chunk). get_or l i d) is
    ∙ get_or-append_right (map emptied (take i cs)) (drop i cs) i i d len (omega arith)
    ∙ ap (λ (n : ℕ). get_or (drop i cs) n d) here
    ∙ get_or-drop i cs 0 d
    ∙ ap (λ (n : ℕ). get_or cs n d) there

-- the lines of one more
lines_more : (cs : List Chunk) (ts : List (Vec (List ℕ) Global)) (t : Vec (List ℕ) Global) (i : ℕ) (c : Chunk) → i < length cs → c ≡ get_or cs i c
    → map (λ (v : Vec (List ℕ) Global). v.items) ts ≡ map (λ (k : Chunk). k.lines) (take i cs) → t.items ≡ c.lines
    → map (λ (v : Vec (List ℕ) Global). v.items) (ts ++ t ∷ []) ≡ map (λ (k : Chunk). k.lines) (take (suc i) cs)
lines_more [] ts t i c within looked is e = absurd (omega arith)
lines_more (k ∷ cs) [] t zero c within looked is e = ap (λ (l : List (List ℕ)). l ∷ []) (e ∙ ap (λ (d : Chunk). d.lines) looked)
lines_more (k ∷ cs) [] t (suc i) c within looked is e = absurd (let none : 0 ≡ suc (length (map (λ (d : Chunk). d.lines) (take i cs))) = ap (length {A = List (List ℕ)}) is in omega arith)
lines_more (k ∷ cs) (u ∷ ts) t zero c within looked is e = absurd (let none : suc (length (map (λ (v : Vec (List ℕ) Global). v.items) ts)) ≡ 0 = ap (length {A = List (List ℕ)}) is in omega arith)
lines_more (k ∷ cs) (u ∷ ts) t (suc i) c within looked is e =
    let first : u.items ≡ k.lines = ap (λ (l : List (List (List ℕ))). get_or l 0 []) is in
    let rest = lines_more cs ts t i c (omega arith) looked (ap (drop 1) is) e in
    λ j. first j ∷ rest j

-- none was taken out yet
pub none_taken : (cs : List Chunk) (ts : List (Vec (List ℕ) Global)) → ts ≡ [] → AreTakenOut ts cs cs
none_taken cs ts none =
    subst (λ (l : List (Vec (List ℕ) Global)). AreTakenOut l cs cs) (sym none) (record { within = omega arith; chunks = refl; lines = refl })

-- the lines of one more chunk were taken out
one_taken : (cs left : List Chunk) (ts new : List (Vec (List ℕ) Global)) (t : Vec (List ℕ) Global) (c moved : Chunk) → AreTakenOut ts cs left
    → length ts < length cs → c ≡ get_or left (length ts) c → moved ≡ emptied c → t.items ≡ c.lines → new ≡ ts ++ t ∷ []
    → AreTakenOut new cs (set left (length ts) moved)
one_taken cs left ts new t c moved h within looked goes e put =
    let i = length ts in
    let there : c ≡ get_or cs i c = looked ∙ next_chunk cs left i c within h.chunks in
    let many : length new ≡ suc i = omega (arith, ap (length {A = Vec (List ℕ) Global}) put, length-append ts (t ∷ [])) in
    record {
      within = omega (arith, many);
      chunks =
          ap (λ (m : Chunk). set left i m) goes
          ∙ map_over_more emptied cs left i c within h.chunks looked
          ∙ ap (λ (n : ℕ). map emptied (take n cs) ++ drop n cs) (let same : i + 1 ≡ length new = omega (arith, many) in same);
      lines =
          ap (map (λ (v : Vec (List ℕ) Global). v.items)) put
          ∙ lines_more cs ts t i c within there h.lines e
          ∙ ap (λ (n : ℕ). map (λ (k : Chunk). k.lines) (take n cs)) (sym many);
    }

pub one_taken_at : (cs left : List Chunk) (ts new : List (Vec (List ℕ) Global)) (t : Vec (List ℕ) Global) (c moved : Chunk) (i : ℕ) → AreTakenOut ts cs left
    → length ts ≡ i → i < length cs → c ≡ get_or left i c → moved ≡ emptied c → t.items ≡ c.lines → new ≡ ts ++ t ∷ []
    → AreTakenOut new cs (set left i moved)
one_taken_at cs left ts new t c moved i h many within looked goes e put =
    subst (λ (n : ℕ). n < length cs → c ≡ get_or left n c → AreTakenOut new cs (set left n moved)) many
    (λ less there. one_taken cs left ts new t c moved h less there goes e put) within looked

-- ---- and put back

put_over : (cs : List Chunk) (i : ℕ) (c : Chunk) → i < length cs → c ≡ get_or cs i c
    → set (map emptied (take (suc i) cs) ++ drop (suc i) cs) i c ≡ map emptied (take i cs) ++ drop i cs
put_over [] i c within looked = absurd (omega arith)
put_over (k ∷ cs) zero c within looked = ap (λ (d : Chunk). d ∷ cs) looked
put_over (k ∷ cs) (suc i) c within looked = ap (λ (l : List Chunk). emptied k ∷ l) (put_over cs i c (omega arith) looked)

-- the last one that was taken out is without its lines
last_chunk : (cs : List Chunk) (i : ℕ) (d : Chunk) → i < length cs → get_or (map emptied (take (suc i) cs) ++ drop (suc i) cs) i d ≡ emptied (get_or cs i d)
last_chunk [] i d within = absurd (omega arith)
last_chunk (k ∷ cs) zero d within = refl
last_chunk (k ∷ cs) (suc i) d within = last_chunk cs i d (omega arith)

-- the lines of the tables but the last one, and of that
lines_fewer : (cs : List Chunk) (ts : List (Vec (List ℕ) Global)) (t : Vec (List ℕ) Global) (d : Chunk) → length ts < length cs
    → map (λ (v : Vec (List ℕ) Global). v.items) (ts ++ t ∷ []) ≡ map (λ (k : Chunk). k.lines) (take (suc (length ts)) cs)
    → (map (λ (v : Vec (List ℕ) Global). v.items) ts ≡ map (λ (k : Chunk). k.lines) (take (length ts) cs)) × (t.items ≡ (get_or cs (length ts) d).lines)
lines_fewer [] ts t d within is = absurd (omega arith)
lines_fewer (k ∷ cs) [] t d within is = (refl, ap (λ (l : List (List (List ℕ))). get_or l 0 []) is)
lines_fewer (k ∷ cs) (u ∷ ts) t d within is =
    let first : u.items ≡ k.lines = ap (λ (l : List (List (List ℕ))). get_or l 0 []) is in
    let rest = lines_fewer cs ts t d (omega arith) (ap (drop 1) is) in
    ((λ j. first j ∷ rest.0 j), rest.1)

-- the lines of the last one were put back
one_back : (cs left : List Chunk) (all ts : List (Vec (List ℕ) Global)) (t : Vec (List ℕ) Global) (c moved : Chunk) → AreTakenOut all cs left → all ≡ ts ++ t ∷ []
    → c ≡ get_or left (length ts) c → moved ≡ refilled t c → AreTakenOut ts cs (set left (length ts) moved)
one_back cs left all ts t c moved h parts looked goes =
    let i = length ts in
    let many : length all ≡ suc i = omega (arith, ap (length {A = Vec (List ℕ) Global}) parts, length-append ts (t ∷ [])) in
    let within : i < length cs = omega (arith, many, h.within) in
    let there : left ≡ map emptied (take (suc i) cs) ++ drop (suc i) cs = h.chunks ∙ ap (λ (n : ℕ). map emptied (take n cs) ++ drop n cs) many in
    let lines = lines_fewer cs ts t c within (ap (map (λ (v : Vec (List ℕ) Global). v.items)) (sym parts) ∙ h.lines ∙ ap (λ (n : ℕ). map (λ (k : Chunk). k.lines) (take n cs)) many) in
    let empty : c ≡ emptied (get_or cs i c) = looked ∙ ap (λ (l : List Chunk). get_or l i c) there ∙ last_chunk cs i c within in
    let whole : moved ≡ get_or cs i c = goes ∙ ap (refilled t) empty ∙ (λ j. record { lines = lines.1 j; bytes = (get_or cs i c).bytes }) in
    let known : moved ≡ get_or cs i moved = whole ∙ get_or_default cs i c moved within in
    record {
      within = omega (arith, within);
      chunks = ap (λ (l : List Chunk). set l i moved) there ∙ put_over cs i moved within known;
      lines = lines.0;
    }

pub one_back_at : (cs left : List Chunk) (all ts : List (Vec (List ℕ) Global)) (t : Vec (List ℕ) Global) (c moved : Chunk) (i : ℕ) → AreTakenOut all cs left → all ≡ ts ++ t ∷ []
    → length ts ≡ i → c ≡ get_or left i c → moved ≡ refilled t c → AreTakenOut ts cs (set left i moved)
one_back_at cs left all ts t c moved i h parts many looked goes =
    subst (λ (n : ℕ). c ≡ get_or left n c → AreTakenOut ts cs (set left n moved)) many
    (λ there. one_back cs left all ts t c moved h parts there goes) looked

-- none is left to put back
pub all_back : (cs left : List Chunk) (ts : List (Vec (List ℕ) Global)) → AreTakenOut ts cs left → length ts ≡ 0 → left ≡ cs
all_back cs left ts h none = h.chunks ∙ ap (λ (n : ℕ). map emptied (take n cs) ++ drop n cs) none

-- ---- all the lines of chunks

tables_are : (cs : List Chunk) (ts : List (Vec (List ℕ) Global)) → map (λ (v : Vec (List ℕ) Global). v.items) ts ≡ map (λ (k : Chunk). k.lines) cs → table_lines ts ≡ chunk_lines cs
tables_are [] [] is = refl
tables_are [] (t ∷ ts) is = absurd (let none : suc (length (map (λ (v : Vec (List ℕ) Global). v.items) ts)) ≡ 0 = ap (length {A = List (List ℕ)}) is in omega arith)
tables_are (k ∷ cs) [] is = absurd (let none : 0 ≡ suc (length (map (λ (d : Chunk). d.lines) cs)) = ap (length {A = List (List ℕ)}) is in omega arith)
tables_are (k ∷ cs) (t ∷ ts) is =
    let first : t.items ≡ k.lines = ap (λ (l : List (List (List ℕ))). get_or l 0 []) is in
    let rest = tables_are cs ts (ap (drop 1) is) in
    λ j. first j ++ rest j

-- those that were all taken out
pub all_taken : (cs left : List Chunk) (ts : List (Vec (List ℕ) Global)) → AreTakenOut ts cs left → length ts ≡ length cs → table_lines ts ≡ chunk_lines cs
all_taken cs left ts h many =
    tables_are cs ts (h.lines ∙ ap (λ (l : List Chunk). map (λ (k : Chunk). k.lines) l) (take_all (length ts) cs (omega (arith, many))))

-- as many chunks as before
pub length-left : (cs left : List Chunk) (ts : List (Vec (List ℕ) Global)) → AreTakenOut ts cs left → length left ≡ length cs
length-left cs left ts h =
    omega (
      arith,
      ap (length {A = Chunk}) h.chunks,
      length-append (map emptied (take (length ts) cs)) (drop (length ts) cs),
      length-map (take (length ts) cs) emptied,
      length-take (length ts) cs,
      length-drop (length ts) cs,
    )

-- ---- a part of a list that was put in place twice

pub splice_twice : {X : Type 0} (xs ys new : List X) (from to : ℕ) → from ≤ to → to ≤ length xs → length ys ≡ to - from
    → splice (splice xs from to ys) from to new ≡ splice xs from to new
splice_twice xs ys new from to order within same =
    let front : length (take from xs) ≡ from = length-take-le from xs (omega arith) in
    let begins : take from (splice xs from to ys) ≡ take from xs =
    take-append from (take from xs) (ys ++ drop to xs)
    ∙ ap (λ l. l ++ take (from - length (take from xs)) (ys ++ drop to xs)) (take_all from (take from xs) (omega (arith, front)))
    ∙ ap (λ n. take from xs ++ take n (ys ++ drop to xs)) (let none : from - length (take from xs) ≡ 0 = omega (arith, front) in none)
    ∙ append-nil (take from xs) in
    let ends : drop to (splice xs from to ys) ≡ drop to xs =
    drop-append to (take from xs) (ys ++ drop to xs)
    ∙ ap (λ l. l ++ drop (to - length (take from xs)) (ys ++ drop to xs)) (drop_all to (take from xs) (omega (arith, front)))
    ∙ ap (λ n. drop n (ys ++ drop to xs)) (let rest : to - length (take from xs) ≡ to - from = omega (arith, front) in rest)
    ∙ drop-append (to - from) ys (drop to xs)
    ∙ ap (λ l. l ++ drop (to - from - length ys) (drop to xs)) (drop_all (to - from) ys (omega (arith, same)))
    ∙ ap (λ n. drop n (drop to xs)) (let none : to - from - length ys ≡ 0 = omega (arith, same) in none) in
    λ i. begins i ++ (new ++ ends i)

-- a part put in its own place
pub splice_same : {X : Type 0} (xs : List X) (from to : ℕ) → from ≤ to → splice xs from to (slice_range xs from to) ≡ xs
splice_same xs from to order = sym (three_parts xs from to order)

pub slice_of_splice : {X : Type 0} (xs ys : List X) (from to : ℕ) → from ≤ to → to ≤ length xs → length ys ≡ to - from
    → slice_range (splice xs from to ys) from to ≡ ys
slice_of_splice xs ys from to order within same =
    let front : length (take from xs) ≡ from = length-take-le from xs (omega arith) in
    slice_range-inside (take from xs) ys (drop to xs) from from to (sym front) (omega arith) (omega (arith, same))
    ∙ ap (λ n. take (to - from - n) (drop n ys)) (let none : from - from ≡ 0 = omega arith in none)
    ∙ take_all (to - from - 0) ys (omega (arith, same))

-- a vector whose part was changed through a slice of its items
pub part_changed : {X : Type 0} (xs held ys : List X) (len from to : ℕ) → held ≡ xs → length held ≡ len → from ≤ to → to ≤ length xs → length ys ≡ to - from
    → take len ((take from held ++ (ys ++ drop (to - from) (drop from held))) ++ drop (length (take from held ++ (ys ++ drop (to - from) (drop from held)))) xs)
    ≡ splice xs from to ys
part_changed xs held ys len from to same many order within count =
    let changed = take from held ++ (ys ++ drop (to - from) (drop from held)) in
    let put : changed ≡ splice xs from to ys =
    ap (λ l. take from l ++ (ys ++ drop (to - from) (drop from l))) same
    ∙ ap (λ l. take from xs ++ (ys ++ l)) (drop-drop (to - from) from xs)
    ∙ ap (λ n. take from xs ++ (ys ++ drop n xs)) (let there : from + (to - from) ≡ to = omega arith in there) in
    let all : length changed ≡ len = omega (arith, ap length put, length-splice xs ys from to order within, many, ap length same) in
    take-append-le len changed (drop (length changed) xs) (omega (arith, all))
    ∙ take_all len changed (omega (arith, all))
    ∙ put
