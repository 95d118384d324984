use Rattle.std.proofs.Common.{rules, ◌≡◌, ◌<◌, ℕ, suc, ◌+◌, Bool, true, false, [], Some, drop, get_or, length, refl, ap, sym, ◌∙◌, slice_get, arith}
use Rattle.std.specs.Prelude.{◌&&◌}
use Rattle.std.proofs.lemmas.Option.{slice_get-get_or}
use Rattle.nv_watch.specs.Folds.{are_same_lines}
use Rattle.nv_watch.proofs.SameLines.{same_here}
use Rattle.nv_watch.proofs.comparing.are_same_between.Goals as goal

pub loop-row-init : goal.loop-row-init
loop-row-init c = record { within = c.requires.order; left = refl }

pub returns-then-not-is_line_at : goal.returns-then-not-is_line_at
returns-then-not-is_line_at c = λ behind.
    let i : ℕ = c.loop-row.row in
    let below : c.loop-row.row < length c.args.text.now = omega (arith, c.requires.within, c.requires.count) in
    let there : slice_get c.args.text.now c.loop-row.row ≡ Some (get_or c.args.text.now c.loop-row.row []) = slice_get-get_or c.args.text.now c.loop-row.row [] below in
    let other : c.is_line_at.result ≡ false = search rules in
    ap (λ (t : Bool). t && are_same_lines (drop (suc i) c.args.text.now) (drop (suc i) c.args.lines.now)) (sym other)
    ∙ sym (same_here c.args.text.now c.args.lines.now i (get_or c.args.text.now i []) c.index-lines-row.result c.is_line_at.result
    c.requires.count there c.index-lines-row.is (c.is_line_at.ensures (get_or c.args.text.now i []) there))
    ∙ c.loop-row.invariant.left

pub loop-row-preserved : goal.loop-row-preserved
loop-row-preserved c =
    let i : ℕ = c.loop-row.row in
    let below : c.loop-row.row < length c.args.text.now = omega (arith, c.requires.within, c.requires.count) in
    let there : slice_get c.args.text.now c.loop-row.row ≡ Some (get_or c.args.text.now c.loop-row.row []) = slice_get-get_or c.args.text.now c.loop-row.row [] below in
    let same : c.is_line_at.result ≡ true = search rules in
    record {
      within = omega arith;
      left =
          ap (λ (j : ℕ). are_same_lines (drop j c.args.text.now) (drop j c.args.lines.now)) (let e : i + 1 ≡ suc i = omega arith in e)
          ∙ ap (λ (t : Bool). t && are_same_lines (drop (suc i) c.args.text.now) (drop (suc i) c.args.lines.now)) (sym same)
          ∙ sym (same_here c.args.text.now c.args.lines.now i (get_or c.args.text.now i []) c.index-lines-row.result c.is_line_at.result
          c.requires.count there c.index-lines-row.is (c.is_line_at.ensures (get_or c.args.text.now i []) there))
          ∙ c.loop-row.invariant.left;
    }

pub returns : goal.returns
returns c = λ behind.
    let at : c.loop-row.row ≡ c.args.to = omega (arith, c.loop-row.invariant.within) in
    sym behind
    ∙ ap (λ (j : ℕ). are_same_lines (drop j c.args.text.now) (drop j c.args.lines.now)) (sym at)
    ∙ c.loop-row.invariant.left
