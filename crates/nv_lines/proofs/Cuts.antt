-- Lemmas on lines that are cut into chunks.
use Rattle.std.proofs.Common.{◌≡◌, ℕ, ◌+◌, ◌<◌, ◌≤◌, List, [], ◌∷◌, ◌++◌, length, sym, ap, ◌∙◌, subst, arith, length-append, All, append_assoc}
use Rattle.std.proofs.lemmas.Bool.Decides.{nat_tests}
use Rattle.std.proofs.lemmas.List.{append-nil}
use Rattle.std.proofs.lemmas.List.Elements.{All-append, All-push, All-cons, All-nil, All-head, All-tail, All-weaker}
use Rattle.nv_places.specs.Flat.{flat}
use Rattle.nv_lines.specs.Chunks.{chunk_lines, chunk_sizes, IsChunk, AreFull}
use Rattle.nv_lines.specs.inside.Edits.{edge, IsCutIntoChunks}
use Rattle.nv_lines.specs.declared.chunk.Chunk.{Chunk}
use Rattle.nv_lines.proofs.FlatLengths.{length-flat-append}
use Rattle.nv_lines.proofs.Chunks.{chunk_lines-append}
use Rattle.nv_lines.proofs.Neighbours.{chunk_sizes-append}

-- one more chunk of the lines that are left
pub cut_more : (made : List Chunk) (c : Chunk) (before after all : List (List ℕ)) → chunk_lines made ++ before ≡ all
    → c.lines ++ after ≡ before → chunk_lines (made ++ c ∷ []) ++ after ≡ all
cut_more made c before after all is more =
    ap (λ l. l ++ after) (chunk_lines-append made (c ∷ []) ∙ ap (λ l. chunk_lines made ++ l) (append-nil c.lines))
    ∙ append_assoc (chunk_lines made) c.lines after
    ∙ ap (λ l. chunk_lines made ++ l) more
    ∙ is

pub length-chunk_lines-push : (made : List Chunk) (c : Chunk) → length (chunk_lines (made ++ c ∷ [])) ≡ length (chunk_lines made) + length c.lines
length-chunk_lines-push made c =
    omega (arith, ap length (chunk_lines-append made (c ∷ [])), length-append (chunk_lines made) (chunk_lines (c ∷ [])), ap length (append-nil c.lines))

pub each_more : (made : List Chunk) (c : Chunk) → All IsChunk made → IsChunk c → All IsChunk (made ++ c ∷ [])
each_more made c each one = All-push IsChunk made c each one

pub sizes_more : (made : List Chunk) (c : Chunk) → All (λ n. n ≡ 48) (chunk_sizes made) → length c.lines ≡ 48
    → All (λ n. n ≡ 48) (chunk_sizes (made ++ c ∷ []))
sizes_more made c each one =
    subst (All (λ n. n ≡ 48)) (sym (chunk_sizes-append made (c ∷ []))) (All-push (λ n. n ≡ 48) (chunk_sizes made) (length c.lines) each one)

edge_one : (n m : ℕ) → n ≡ m → m ≤ 64 → edge n ≤ m
edge_one n m e h = grind (arith, nat_tests)

edge_many : (n : ℕ) → 64 < n → edge n ≤ 32
edge_many n h = grind (arith, nat_tests)

large : (least : ℕ) (ns : List ℕ) → least ≤ 48 → All (λ n. n ≡ 48) ns → All (λ n. least ≤ n) ns
large least ns h each = All-weaker (λ n. n ≡ 48) (λ n. least ≤ n) (λ n e. omega arith) ns each

full_end : (ns : List ℕ) (m n : ℕ) → All (λ k. k ≡ 48) ns → 32 ≤ m → 64 < m + n → AreFull (ns ++ (m ∷ (n ∷ [])))
full_end [] m n h low over = (over, (tt, tt))
full_end (x ∷ []) m n h low over = (omega (arith, All-head (λ k. k ≡ 48) x [] h), (over, (tt, tt)))
full_end (x ∷ (y ∷ ns)) m n h low over =
    let rest = All-tail (λ k. k ≡ 48) x (y ∷ ns) h in
    (omega (arith, All-head (λ k. k ≡ 48) x (y ∷ ns) h, All-head (λ k. k ≡ 48) y ns rest), full_end (y ∷ ns) m n rest low over)

-- one chunk of all lines
pub cut_one : (made : List Chunk) (c : Chunk) (lines : List (List ℕ)) → made ≡ [] → IsChunk c → chunk_lines (made ++ c ∷ []) ≡ lines
    → IsCutIntoChunks lines (made ++ c ∷ [])
cut_one made c lines none one text =
    let only : made ++ c ∷ [] ≡ c ∷ [] = ap (λ (l : List Chunk). l ++ c ∷ []) none in
    let count : length lines ≡ length c.lines = ap length (sym text ∙ ap chunk_lines only ∙ append-nil c.lines) in
    let least : edge (length lines) ≤ length c.lines = edge_one (length lines) (length c.lines) count one.most in
    record {
      text = text;
      each = subst (All IsChunk) (sym only) (All-cons IsChunk c [] one (All-nil IsChunk));
      least = subst (λ (l : List Chunk). All (λ n. edge (length lines) ≤ n) (chunk_sizes l)) (sym only)
          (All-cons (λ n. edge (length lines) ≤ n) (length c.lines) [] least (All-nil (λ n. edge (length lines) ≤ n)));
      full = subst (λ (l : List Chunk). AreFull (chunk_sizes l)) (sym only) (tt, tt);
    }

-- two chunks of what is left
pub cut_two : (made : List Chunk) (a b : Chunk) (lines : List (List ℕ)) → All IsChunk made → All (λ n. n ≡ 48) (chunk_sizes made)
    → IsChunk a → IsChunk b → 32 ≤ length a.lines → 32 ≤ length b.lines → 64 < length a.lines + length b.lines
    → chunk_lines ((made ++ a ∷ []) ++ b ∷ []) ≡ lines → IsCutIntoChunks lines ((made ++ a ∷ []) ++ b ∷ [])
cut_two made a b lines each size one two least_a least_b over text =
    let parts : (made ++ a ∷ []) ++ b ∷ [] ≡ made ++ (a ∷ (b ∷ [])) = append_assoc made (a ∷ []) (b ∷ []) in
    let count : 64 < length lines =
    omega (arith, ap length text, length-chunk_lines-push (made ++ a ∷ []) b, length-chunk_lines-push made a) in
    let least : edge (length lines) ≤ 32 = edge_many (length lines) count in
    let all_sizes : chunk_sizes (made ++ (a ∷ (b ∷ []))) ≡ chunk_sizes made ++ (length a.lines ∷ (length b.lines ∷ [])) = chunk_sizes-append made (a ∷ (b ∷ [])) in
    record {
      text = text;
      each = (All-push IsChunk (made ++ a ∷ []) b (All-push IsChunk made a each one) two);
      least =
          subst (λ (l : List Chunk). All (λ n. edge (length lines) ≤ n) (chunk_sizes l)) (sym parts)
          (subst (All (λ n. edge (length lines) ≤ n)) (sym all_sizes)
          (All-append (λ n. edge (length lines) ≤ n) (chunk_sizes made) (length a.lines ∷ (length b.lines ∷ [])) (large (edge (length lines)) (chunk_sizes made) (omega arith) size)
          (All-cons (λ n. edge (length lines) ≤ n) (length a.lines) (length b.lines ∷ []) (omega arith)
          (All-cons (λ n. edge (length lines) ≤ n) (length b.lines) [] (omega arith) (All-nil (λ n. edge (length lines) ≤ n))))));
      full =
          subst (λ (l : List Chunk). AreFull (chunk_sizes l)) (sym parts)
          (subst AreFull (sym all_sizes) (full_end (chunk_sizes made) (length a.lines) (length b.lines) size least_a over));
    }

-- what is left of lines, and what was taken of them, is no longer than they are
pub flat_rest-small : (a b all : List (List ℕ)) → a ++ b ≡ all → length (flat a) + length (flat b) ≡ length (flat all)
flat_rest-small a b all is = omega (arith, ap (λ l. length (flat l)) is, length-flat-append a b)
