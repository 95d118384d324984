use Rattle.std.proofs.Common.{◌≡◌, ◌<◌, ◌+◌, ◌-◌, ◌∙◌, ℕ, List, suc, get_or, length, min, ap, refl, sym, arith, rules}
use Rattle.nv_linedraw.specs.LineCells.{rows_of_line}
use Rattle.nv_screen.specs.declared.scene.SceneLine.{SceneLine}
use Rattle.nv_virt.specs.Texts.{line_above}
use Rattle.nv_virt.proofs.LayLemmas.{above_step, tops_step}
use Rattle.nv_virt.proofs.laying.line_tops.Goals as goal

pub loop-line-init : goal.loop-line-init
loop-line-init c =
    let none : line_above c.args.pane.now 0 ≡ 0 = refl in
    record {
      within = omega arith;
      count = ap length c.in_ok-tops.ensures.items;
      row = omega (arith, none);
      each = λ n lt. absurd (omega (arith, lt));
    }

pub loop-line-preserved : goal.loop-line-preserved
loop-line-preserved c =
    let p = c.args.pane.now in
    let at = c.loop-line.invariant in
    let k = c.loop-line.line-index in
    let lines = p.lines.items in
    let line = c.line-item.result in
    let all : c.as_slice-lines.result.now ≡ lines = c.as_slice-lines.ensures.value in
    let lt : k < length lines = omega (arith, c.loop-line-test.true, ap length all) in
    let is : line ≡ get_or lines k line = c.line-item.is ∙ ap (λ (ls : List SceneLine). get_or ls k line) all in
    let next : suc k ≡ k + 1 = omega arith in
    let n = rows_of_line p.rect.width p.tabstop line.bytes in
    let rows =
    c.in_ok-row.ensures
    ∙ ap (λ (bytes : List ℕ). min (p.rect.height - c.loop-line.row) (rows_of_line p.rect.width p.tabstop bytes)) c.as_slice-bytes.ensures.value in
    let more : line_above p (k + 1) ≡ line_above p k + n =
    ap (line_above p) (sym next)
    ∙ above_step p.rect.width p.tabstop lines k line lt
    ∙ ap (λ (l : SceneLine). line_above p k + rows_of_line p.rect.width p.tabstop l.bytes) (sym is) in
    record {
      within = omega (arith, lt);
      count = search rules;
      row = omega (arith, at.row, rows, more);
      each = tops_step (λ m. min p.rect.height (line_above p m)) c.loop-line.tops.items _ c.loop-line.row k (search rules) at.count at.row at.each;
    }

pub returns : goal.returns
returns c =
    let at = c.loop-line.invariant in
    let all : length c.as_slice-lines.result.now ≡ length c.args.pane.now.lines.items = ap length c.as_slice-lines.ensures.value in
    record {
      count = omega (arith, at.count, at.within, all, c.loop-line-test.false);
      each = λ n lt. at.each n (omega (arith, lt, all, c.loop-line-test.false));
    }
