use Rattle.std.proofs.Common.{rules, ◌≡◌, ℕ, suc, ◌+◌, Bool, true, false, drop, ap, sym, ◌∙◌, arith}
use Rattle.std.specs.Prelude.{◌&&◌}
use Rattle.nv_watch.specs.Folds.{are_same_lines}
use Rattle.nv_watch.proofs.SameLines.{same_at}
use Rattle.nv_watch.proofs.comparing.are_same_rows.Goals as goal

pub returns-then-not-is_same_line : goal.returns-then-not-is_same_line
returns-then-not-is_same_line c =
    let i : ℕ = c.loop-row.row in
    let other : c.is_same_line.result ≡ false = search rules in
    ap (λ (t : Bool). t && are_same_lines (drop (suc i) c.args.lines.now) (drop (suc i) c.args.others.now)) (sym other)
    ∙ sym (same_at c.args.lines.now c.args.others.now i c.index-lines-row.result c.index-others-row.result c.is_same_line.result
    c.loop-row.invariant.count (omega arith) c.index-lines-row.is c.index-others-row.is c.is_same_line.ensures)
    ∙ c.loop-row.invariant.left

pub loop-row-preserved : goal.loop-row-preserved
loop-row-preserved c =
    let i : ℕ = c.loop-row.row in
    let same : c.is_same_line.result ≡ true = search rules in
    record {
      count = c.loop-row.invariant.count;
      left =
          ap (λ (j : ℕ). are_same_lines (drop j c.args.lines.now) (drop j c.args.others.now)) (let e : i + 1 ≡ suc i = omega arith in e)
          ∙ ap (λ (t : Bool). t && are_same_lines (drop (suc i) c.args.lines.now) (drop (suc i) c.args.others.now)) (sym same)
          ∙ sym (same_at c.args.lines.now c.args.others.now i c.index-lines-row.result c.index-others-row.result c.is_same_line.result
          c.loop-row.invariant.count (omega arith) c.index-lines-row.is c.index-others-row.is c.is_same_line.ensures)
          ∙ c.loop-row.invariant.left;
    }
