-- Lemmas on the first cells of the parts of a text.
use Rattle.std.proofs.Common.{◌≡◌, ◌≤◌, ◌+◌, ◌-◌, ℕ, zero, suc, List, [], ◌∷◌, ◌++◌, length, take, drop, refl, sym, ap, ◌∙◌, arith, append_assoc, append-nil}
use Rattle.std.proofs.lemmas.List.{drop_all, length-append, length-take}
use Rattle.nv_hl.specs.declared.cell.Cell.{Cell}
use Rattle.nv_hl.specs.Groups.{NamedGroup}
use Rattle.nv_notes.specs.declared.note.Chunk.{Chunk}
use Rattle.nv_virt.specs.Texts.{chunk_cells, chunks_cells}

take_none : {X : Type 0} (n : ℕ) → ◌≡◌ {A = List X} (take n []) []
take_none zero = refl
take_none (suc n) = refl

-- the first elements of two lists are those of the one, and what is left of the other
take_split : {X : Type 0} (m : ℕ) (xs ys : List X) → take m (xs ++ ys) ≡ take m xs ++ take (m - length (take m xs)) ys
take_split zero xs ys =
    let none : zero - length (take zero xs) ≡ zero = omega arith in
    ap (λ k. take k ys) (sym none)
take_split (suc m) [] ys =
    let all : suc m ≡ suc m - 0 = omega arith in
    ap (λ k. take k ys) all
take_split (suc m) (x ∷ xs) ys =
    let same : m - length (take m xs) ≡ suc m - suc (length (take m xs)) = omega arith in
    ap (λ zs. x ∷ zs) (take_split m xs ys ∙ ap (λ k. take m xs ++ take k ys) same)

pub pushed_few : (most : ℕ) (cells new xs : List Cell) → new ≡ cells ++ take (most - length cells) xs → length cells ≤ most → length new ≤ most
pushed_few most cells new xs pushed few =
    let m = most - length cells in
    omega (arith, ap length pushed, length-append cells (take m xs), length-take m xs, few)

module _ (most : ℕ) (groups : List NamedGroup) (cs : List Chunk) where
  -- one part more was put
  pub chunk_step : (k : ℕ) (c : Chunk) (cells new goal : List Cell) → drop k cs ≡ c ∷ drop (k + 1) cs
      → new ≡ cells ++ take (most - length cells) (chunk_cells groups c)
      → cells ++ take (most - length cells) (chunks_cells groups (drop k cs)) ≡ goal
      → new ++ take (most - length new) (chunks_cells groups (drop (k + 1) cs)) ≡ goal
  chunk_step k c cells new goal here pushed before =
      let m = most - length cells in
      let xs = take m (chunk_cells groups c) in
      let ys = chunks_cells groups (drop (k + 1) cs) in
      let count : most - length new ≡ m - length xs = omega (arith, ap length pushed, length-append cells xs) in
      (λ i. pushed i ++ take (count i) ys)
      ∙ append_assoc cells xs (take (m - length xs) ys)
      ∙ ap (λ zs. cells ++ zs) (sym (take_split m (chunk_cells groups c) ys))
      ∙ ap (λ ds. cells ++ take m (chunks_cells groups ds)) (sym here)
      ∙ before

  pub chunks_done : (k : ℕ) (cells goal : List Cell) → length cs ≤ k
      → cells ++ take (most - length cells) (chunks_cells groups (drop k cs)) ≡ goal → cells ≡ goal
  chunks_done k cells goal past before =
      sym (append-nil cells)
      ∙ ap (λ zs. cells ++ zs) (sym (take_none (most - length cells)))
      ∙ ap (λ ds. cells ++ take (most - length cells) (chunks_cells groups ds)) (sym (drop_all k cs past))
      ∙ before
