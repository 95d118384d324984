-- Lemmas on the sizes of the reads of a source.
use Rattle.std.proofs.Common.{◌≡◌, ℕ, ◌+◌, ◌≤◌, List, [], ◌∷◌, ◌++◌, length, drop, refl, ap, ap₂, subst, ◌∙◌, arith, append-nil, length-append, length-drop, Some, None, IfSome, option_map}
use Rattle.std.specs.List.{sum}
use Rattle.std.proofs.lemmas.List.{take-append-le, drop-append-le}
use Rattle.std.proofs.lemmas.List.Sums.{sum_by-append}
use Rattle.std.proofs.Math.Seq.{take-length}
use Rattle.std.specs.declared.option.Option.{Option}
use Rattle.nv_io.specs.Memory.{AddsSize, cut_by}
use Rattle.nv_io.specs.Streams.{AddsReads}

-- one size more
pub sum_more : (sizes : List ℕ) (size : ℕ) → sum (sizes ++ size ∷ []) ≡ sum sizes + size
sum_more sizes size = sum_by-append (λ (x : ℕ). x) sizes (size ∷ []) ∙ ap (λ (n : ℕ). sum sizes + n) (omega arith)

-- bytes that are cut, and one piece more
pub cut_more : (sizes taken piece : List ℕ) → sum sizes ≡ length taken → cut_by (sizes ++ length piece ∷ []) (taken ++ piece) ≡ cut_by sizes taken ++ piece ∷ []
cut_more [] [] piece e = ap (λ (p : List ℕ). p ∷ []) (take-length piece)
cut_more [] (x ∷ xs) piece e = absurd (omega (arith, e))
cut_more (size ∷ sizes) taken piece e =
    let all : sum (size ∷ sizes) ≡ (0 + size) + sum sizes = sum_by-append (λ (x : ℕ). x) (size ∷ []) sizes in
    let few : size ≤ length taken = omega (arith, e, all) in
    let rest : sum sizes ≡ length (drop size taken) = omega (arith, e, all, length-drop size taken) in
    ap₂ (λ (p : List ℕ) (ps : List (List ℕ)). p ∷ ps) (take-append-le size taken piece few)
    (ap (λ (bytes : List ℕ). cut_by (sizes ++ length piece ∷ []) bytes) (drop-append-le size taken piece few) ∙ cut_more sizes (drop size taken) piece rest)

-- what is told of the sizes adds up after one read more
pub sizes_add : (before after : Option (List ℕ)) (size : ℕ) (taken piece : List ℕ) → IfSome before (λ sizes. sum sizes ≡ length taken)
    → AddsSize before after size → size ≡ length piece → IfSome after (λ sizes. sum sizes ≡ length (taken ++ piece))
sizes_add before None size taken piece h k e = tt
sizes_add before (Some now) size taken piece h k e =
    let was : sum k.0 ≡ length taken = subst (λ (o : Option (List ℕ)). IfSome o (λ sizes. sum sizes ≡ length taken)) k.1 h in
    omega (arith, was, e, ap sum k.2, sum_more k.0 size, length-append taken piece)

-- and what is told of the reads grows by what it gave
pub reads_add : (before after : Option (List ℕ)) (size : ℕ) (taken piece : List ℕ) → IfSome before (λ sizes. sum sizes ≡ length taken)
    → AddsSize before after size → size ≡ length piece
    → AddsReads (option_map (λ sizes. cut_by sizes taken) before) (option_map (λ sizes. cut_by sizes (taken ++ piece)) after) (piece ∷ [])
reads_add before None size taken piece h k e = tt
reads_add before (Some now) size taken piece h k e =
    let was : sum k.0 ≡ length taken = subst (λ (o : Option (List ℕ)). IfSome o (λ sizes. sum sizes ≡ length taken)) k.1 h in (
      cut_by k.0 taken,
      ap (λ (o : Option (List ℕ)). option_map (λ sizes. cut_by sizes taken) o) k.1,
      ap (λ (sizes : List ℕ). cut_by sizes (taken ++ piece)) (k.2 ∙ ap (λ (n : ℕ). k.0 ++ n ∷ []) e) ∙ cut_more k.0 taken piece was,
    )

-- the same of a read that gave nothing
pub sizes_stay : (before after : Option (List ℕ)) (taken : List ℕ) → IfSome before (λ sizes. sum sizes ≡ length taken)
    → AddsSize before after 0 → IfSome after (λ sizes. sum sizes ≡ length taken)
sizes_stay before after taken h k =
    subst (λ (bytes : List ℕ). IfSome after (λ sizes. sum sizes ≡ length bytes)) (append-nil taken) (sizes_add before after 0 taken [] h k refl)

pub reads_stay : (before after : Option (List ℕ)) (taken : List ℕ) → IfSome before (λ sizes. sum sizes ≡ length taken)
    → AddsSize before after 0
    → AddsReads (option_map (λ sizes. cut_by sizes taken) before) (option_map (λ sizes. cut_by sizes taken) after) ([] ∷ [])
reads_stay before after taken h k =
    subst (λ (bytes : List ℕ). AddsReads (option_map (λ sizes. cut_by sizes taken) before) (option_map (λ sizes. cut_by sizes bytes) after) ([] ∷ []))
    (append-nil taken) (reads_add before after 0 taken [] h k refl)
