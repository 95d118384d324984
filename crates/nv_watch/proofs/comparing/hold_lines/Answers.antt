use Rattle.std.proofs.Common.{rules, ◌≡◌, ℕ, suc, ◌+◌, Bool, true, false, List, drop, length, ap, sym, subst, ◌∙◌, arith}
use Rattle.std.specs.Prelude.{◌&&◌}
use Rattle.nv_lines.specs.Chunks.{chunk_lines}
use Rattle.nv_watch.specs.Folds.{are_same_lines}
use Rattle.nv_watch.proofs.SameLines.{all_same, chunk_fits, count_behind, same_behind}
use Rattle.nv_watch.proofs.comparing.hold_lines.Goals as goal

pub split_at-requires : goal.split_at-requires
split_at-requires c =
    chunk_fits c.args.chunks.now c.loop-chunk.chunk-index c.chunk-item.result c.as_slice-held.result.now c.loop-chunk.left.now
    (omega arith) c.chunk-item.is c.as_slice-held.ensures.value c.loop-chunk.invariant.count

pub returns-then-not-are_same_rows : goal.returns-then-not-are_same_rows
returns-then-not-are_same_rows c =
    let i : ℕ = c.loop-chunk.chunk-index in
    let cs = c.args.chunks.now in
    let held : List (List ℕ) = c.as_slice-held.result.now in
    let others : List (List ℕ) = c.split_at.result.1.now in
    let other : c.are_same_rows.result ≡ false = search rules in
    ap (λ (t : Bool). t && are_same_lines (chunk_lines (drop (suc i) cs)) others) (sym other)
    ∙ same_behind cs i c.chunk-item.result held c.loop-chunk.left.now c.split_at.result.0.now others c.are_same_rows.result _ (omega arith) c.chunk-item.is
    c.as_slice-held.ensures.value c.split_at.ensures.by_index.0 c.split_at.ensures.front_len c.are_same_rows.ensures c.loop-chunk.invariant.same

pub loop-chunk-preserved : goal.loop-chunk-preserved
loop-chunk-preserved c =
    let i : ℕ = c.loop-chunk.chunk-index in
    let cs = c.args.chunks.now in
    let held : List (List ℕ) = c.as_slice-held.result.now in
    let left : List (List ℕ) = c.loop-chunk.left.now in
    let here : List (List ℕ) = c.split_at.result.0.now in
    let others : List (List ℕ) = c.split_at.result.1.now in
    let same : c.are_same_rows.result ≡ true = search rules in
    let next : suc i ≡ i + 1 = omega arith in
    record {
      count =
          subst (λ (j : ℕ). length (chunk_lines (drop j cs)) ≡ length others) next
          (count_behind cs i c.chunk-item.result held left here others (omega arith) c.chunk-item.is c.as_slice-held.ensures.value
          c.split_at.ensures.by_index.0 c.split_at.ensures.front_len c.loop-chunk.invariant.count);
      same =
          ap (λ (j : ℕ). are_same_lines (chunk_lines (drop j cs)) others) (sym next)
          ∙ ap (λ (t : Bool). t && are_same_lines (chunk_lines (drop (suc i) cs)) others) (sym same)
          ∙ same_behind cs i c.chunk-item.result held left here others c.are_same_rows.result _ (omega arith) c.chunk-item.is
          c.as_slice-held.ensures.value c.split_at.ensures.by_index.0 c.split_at.ensures.front_len c.are_same_rows.ensures c.loop-chunk.invariant.same;
    }

pub returns : goal.returns
returns c = all_same c.args.chunks.now c.loop-chunk.chunk-index c.loop-chunk.left.now _ (omega arith) c.loop-chunk.invariant.count c.loop-chunk.invariant.same
