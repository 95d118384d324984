-- Lemmas on chunks that are full with their neighbours.
use Rattle.std.proofs.Common.{◌≡◌, ℕ, ◌+◌, ◌-◌, ◌<◌, ◌≤◌, zero, suc, List, [], ◌∷◌, ◌++◌, length, take, drop, get_or, refl, sym, ap, ◌∙◌, subst, arith, All, inl, inr, length-drop}
use Rattle.std.proofs.lemmas.Bool.{cases_lt}
use Rattle.std.proofs.lemmas.Bool.Decides.{nat_tests}
use Rattle.std.proofs.lemmas.List.{take-map, drop-map, map-append, length-take-le, get_or-take, get_or-drop, length-map}
use Rattle.std.proofs.lemmas.List.Elements.{All-head, All-tail}
use Rattle.std.specs.List.{splice}
use Rattle.nv_lines.specs.Chunks.{chunk_lines, chunk_sizes, IsChunk, IsFullWith, AreFull}
use Rattle.nv_lines.specs.inside.Starts.{rows_before}
use Rattle.nv_lines.specs.inside.Edits.{edge, rows_after, IsRegion, IsCutIntoChunks}
use Rattle.nv_lines.specs.declared.chunk.Chunk.{Chunk}
use Rattle.nv_lines.specs.declared.finding.Start.{Start}
use Rattle.nv_lines.proofs.Chunks.{rows_before-size, rows_before-all}

-- the last of some chunk_sizes is full with the first of others
abbrev Meets : List ℕ → List ℕ → Type 0
Meets [] b = Unit {0}
Meets (n ∷ []) b = IsFullWith n b
Meets (n ∷ (k ∷ a)) b = Meets (k ∷ a) b

full-append : (a b : List ℕ) → AreFull a → AreFull b → Meets a b → AreFull (a ++ b)
full-append [] b h g m = g
full-append (n ∷ []) b h g m = (m, g)
full-append (n ∷ (k ∷ a)) b h g m = (h.0, full-append (k ∷ a) b h.1 g m)

full-drop : (n : ℕ) (a : List ℕ) → AreFull a → AreFull (drop n a)
full-drop zero a h = h
full-drop (suc n) [] h = tt
full-drop (suc n) (x ∷ a) h = full-drop n a h.1

full-take : (n : ℕ) (a : List ℕ) → AreFull a → AreFull (take n a)
full-take zero a h = tt
full-take (suc n) [] h = tt
full-take (suc zero) (x ∷ a) h = (tt, tt)
full-take (suc (suc n)) (x ∷ []) h = (tt, tt)
full-take (suc (suc n)) (x ∷ (y ∷ a)) h = (h.0, full-take (suc n) (y ∷ a) h.1)

-- the first of some chunk_sizes is so large, where there is one
abbrev BeginsWith : ℕ → List ℕ → Type 0
BeginsWith least [] = Unit {0}
BeginsWith least (n ∷ ns) = least ≤ n

meets_behind : (a b : List ℕ) (least : ℕ) → BeginsWith least b → (0 < length a → 64 < get_or a (length a - 1) 0 + least) → Meets a b
meets_behind [] b least h g = tt
meets_behind (n ∷ []) [] least h g = tt
meets_behind (n ∷ []) (m ∷ b) least h g =
    let last : 64 < get_or (n ∷ []) (length (n ∷ []) - 1) 0 + least = g (omega arith) in
    let same : get_or (n ∷ []) (length (n ∷ []) - 1) 0 ≡ n = refl in
    omega arith
meets_behind (n ∷ (k ∷ a)) b least h g =
    meets_behind (k ∷ a) b least h (λ _.
    let last : 64 < get_or (n ∷ (k ∷ a)) (length (n ∷ (k ∷ a)) - 1) 0 + least = g (omega arith) in
    let place : length (n ∷ (k ∷ a)) - 1 ≡ suc (length (k ∷ a) - 1) = omega arith in
    omega (arith, ap (λ i. get_or (n ∷ (k ∷ a)) i 0) place))

meets_before : (a b : List ℕ) (least : ℕ) → All (λ n. least ≤ n) a → (0 < length b → 64 < least + get_or b 0 0) → Meets a b
meets_before [] b least h g = tt
meets_before (n ∷ []) [] least h g = tt
meets_before (n ∷ []) (m ∷ b) least h g = omega (arith, All-head (λ k. least ≤ k) n [] h, g (omega arith))
meets_before (n ∷ (k ∷ a)) b least h g = meets_before (k ∷ a) b least (All-tail (λ m. least ≤ m) n (k ∷ a) h) g

pub chunk_sizes-append : (a b : List Chunk) → chunk_sizes (a ++ b) ≡ chunk_sizes a ++ chunk_sizes b
chunk_sizes-append a b = map-append (λ (c : Chunk). length c.lines) a b

-- the least that the border of what is cut has is no more than 64, and nothing only for nothing
pub edge_most : (n : ℕ) → edge n ≤ 64
edge_most n = grind (arith, nat_tests)

edge_none : (n : ℕ) → n ≡ 0 → edge n ≡ 0
edge_none n e = grind (arith, nat_tests)

-- the size of the chunk in front of a region and the border of the region are more than 64
left_meets : (cs : List Chunk) (first end : Start) (from to new : ℕ) → IsRegion cs first end from to new → 0 < first.chunk
    → 64 < get_or (chunk_sizes cs) (first.chunk - 1) 0 + edge (rows_after first end from to new)
left_meets cs first end from to new region some =
    let back : first.chunk - 1 + 1 ≡ first.chunk = omega arith in
    omega (
      arith,
      region.left some,
      region.begin.row,
      rows_before-size cs (first.chunk - 1) (omega (arith, region.begin.within)),
      ap (rows_before cs) back,
    )

-- so are the border of the region and the size of the chunk behind it
right_meets : (cs : List Chunk) (first end : Start) (from to new : ℕ) → IsRegion cs first end from to new → end.chunk < length cs
    → 64 < edge (rows_after first end from to new) + get_or (chunk_sizes cs) end.chunk 0
right_meets cs first end from to new region some =
    omega (arith, region.right some, region.stop.row, rows_before-size cs end.chunk some)

-- no chunk has more than 64 lines
size_most : (cs : List Chunk) (n : ℕ) → All IsChunk cs → n < length cs → get_or (chunk_sizes cs) n 0 ≤ 64
size_most [] n each within = elim within [ ]
size_most (c ∷ cs) zero each within = (All-head IsChunk c cs each).most
size_most (c ∷ cs) (suc n) each within = size_most cs n (All-tail IsChunk c cs each) (omega arith)

-- a region that loses all its lines is the whole text
pub region_some : (cs : List Chunk) (first end : Start) (from to new : ℕ) → All IsChunk cs → IsRegion cs first end from to new
    → from ≤ to → to ≤ length (chunk_lines cs) → to < from + new + length (chunk_lines cs) → 0 < rows_after first end from to new
region_some cs first end from to new each region order within left =
    elim (cases_lt 0 (rows_after first end from to new)) [
      | inl h ↦ h
      | inr none ↦
          let edge_is : edge (rows_after first end from to new) ≡ 0 = edge_none (rows_after first end from to new) (omega arith) in
          let begins : first.chunk ≡ 0 =
          elim (cases_lt 0 first.chunk) [
            | inl some ↦
                omega (
                  arith,
                  left_meets cs first end from to new region some,
                  edge_is,
                  size_most cs (first.chunk - 1) each (omega (arith, region.begin.within)),
                )
            | inr h ↦ omega arith
          ] in
          let ends : length cs ≤ end.chunk =
          elim (cases_lt end.chunk (length cs)) [
            | inl within ↦ omega (arith, right_meets cs first end from to new region within, edge_is, size_most cs end.chunk each within)
            | inr h ↦ h
          ] in
          omega (arith, region.begin.row, region.stop.row, ap (rows_before cs) begins, rows_before-all cs end.chunk ends)
    ]

-- lines stand in some chunk
cut_some : (cs : List Chunk) (lines : List (List ℕ)) → 0 < length lines → chunk_lines cs ≡ lines → 0 < length cs
cut_some [] lines h e = absurd (omega (arith, ap length e))
cut_some (c ∷ cs) lines h e = omega arith

begins_with : (least : ℕ) (a b : List ℕ) → All (λ n. least ≤ n) a → 0 < length a → BeginsWith least (a ++ b)
begins_with least [] b h g = absurd (omega arith)
begins_with least (x ∷ a) b h g = All-head (λ n. least ≤ n) x a h

-- chunks stay full with their neighbours where a region is cut anew
pub region_full : (cs made : List Chunk) (lines : List (List ℕ)) (first end : Start) (from to new : ℕ) → AreFull (chunk_sizes cs)
    → IsRegion cs first end from to new → length lines ≡ rows_after first end from to new → 0 < length lines → IsCutIntoChunks lines made
    → AreFull (chunk_sizes (splice cs first.chunk end.chunk made))
region_full cs made lines first end from to new full region rows some cut =
    let least = edge (rows_after first end from to new) in
    let each : All (λ n. least ≤ n) (chunk_sizes made) = subst (λ m. All (λ n. edge m ≤ n) (chunk_sizes made)) rows cut.least in
    let front : chunk_sizes (take first.chunk cs) ≡ take first.chunk (chunk_sizes cs) = sym (take-map (λ (c : Chunk). length c.lines) first.chunk cs) in
    let back : chunk_sizes (drop end.chunk cs) ≡ drop end.chunk (chunk_sizes cs) = sym (drop-map (λ (c : Chunk). length c.lines) end.chunk cs) in
    let parts : chunk_sizes (splice cs first.chunk end.chunk made) ≡ take first.chunk (chunk_sizes cs) ++ (chunk_sizes made ++ drop end.chunk (chunk_sizes cs)) =
    chunk_sizes-append (take first.chunk cs) (made ++ drop end.chunk cs)
    ∙ ap (λ l. chunk_sizes (take first.chunk cs) ++ l) (chunk_sizes-append made (drop end.chunk cs))
    ∙ ap (λ l. l ++ (chunk_sizes made ++ chunk_sizes (drop end.chunk cs))) front
    ∙ ap (λ l. take first.chunk (chunk_sizes cs) ++ (chunk_sizes made ++ l)) back in
    let count : length (chunk_sizes cs) ≡ length cs = length-map cs (λ (c : Chunk). length c.lines) in
    let made_some : 0 < length made = cut_some made lines some cut.text in
    let behind : AreFull (chunk_sizes made ++ drop end.chunk (chunk_sizes cs)) =
    full-append (chunk_sizes made) (drop end.chunk (chunk_sizes cs)) cut.full (full-drop end.chunk (chunk_sizes cs) full)
    (meets_before (chunk_sizes made) (drop end.chunk (chunk_sizes cs)) least each (λ h.
    let within : end.chunk < length cs = omega (arith, length-drop end.chunk (chunk_sizes cs), count) in
    let here : end.chunk + 0 ≡ end.chunk = omega arith in
    omega (arith, right_meets cs first end from to new region within, get_or-drop end.chunk (chunk_sizes cs) 0 0, ap (λ i. get_or (chunk_sizes cs) i 0) here))) in
    subst AreFull (sym parts)
    (full-append (take first.chunk (chunk_sizes cs)) (chunk_sizes made ++ drop end.chunk (chunk_sizes cs)) (full-take first.chunk (chunk_sizes cs) full) behind
    (meets_behind (take first.chunk (chunk_sizes cs)) (chunk_sizes made ++ drop end.chunk (chunk_sizes cs)) least
    (begins_with least (chunk_sizes made) (drop end.chunk (chunk_sizes cs)) each (omega (arith, made_some, length-map made (λ (c : Chunk). length c.lines))))
    (λ h.
    let len : length (take first.chunk (chunk_sizes cs)) ≡ first.chunk = length-take-le first.chunk (chunk_sizes cs) (omega (arith, count, region.begin.within)) in
    let some_front : 0 < first.chunk = omega arith in
    let place : length (take first.chunk (chunk_sizes cs)) - 1 ≡ first.chunk - 1 = omega arith in
    omega (
      arith,
      left_meets cs first end from to new region some_front,
      ap (λ i. get_or (take first.chunk (chunk_sizes cs)) i 0) place,
      get_or-take first.chunk (chunk_sizes cs) (first.chunk - 1) 0 (omega arith),
    ))))
