use Rattle.std.proofs.Common.{◌≡◌, ◌+◌, ◌++◌, ◌∙◌, List, None, Option, ℕ, length, map, min, take, ap, get_or, rules}
use Rattle.std.proofs.lemmas.List.{length-set}
use Rattle.nv_virt.specs.Texts.{Strip, chunks_cells, laid_text, strip_of}
use Rattle.nv_virt.proofs.LayLemmas.{text_laid}
use Rattle.nv_virt.proofs.laying.push_on.Goals as goal

pub returns-clause-count : goal.returns-clause-count
returns-clause-count c = ap length c.end_at.ensures ∙ length-set c.args.ends.now.items c.args.on.n _

pub returns-clause-laid : goal.returns-clause-laid
returns-clause-laid c = λ wanted capped.
    let p = c.args.pane.now in
    let gs = c.args.groups.now in
    let t = laid_text gs c.args.text.now in
    let l = c.line_at-line.result in
    let most : c.in-Some.most ≡ p.rect.width + 1 = search rules in
    let cells : c.in_ok-cells.cells.items ≡ take (p.rect.width + 1) t.cells =
    c.in_ok-cells.ensures ∙ (λ i. take (most i) (chunks_cells gs (c.chunks-chunks.ensures i))) in
    let before : c.end_of-before.result ≡ get_or c.args.ends.now.items c.args.on.n None =
    c.end_of-before.ensures ∙ ap (λ (es : List (Option ℕ)). get_or es c.args.on.n None) c.as_slice-held.ensures.value in
    let both =
    text_laid p c.args.on.n t l.most l.width l.tabstop l.bytes.now c.at-at.result c.end_of-before.result c.as_slice-shown.result.now c.in_ok-cells.cells.items
    c.in_ok-place.place c.end_of_cells-end.result c.args.on.above c.args.ends.now.items wanted c.end_at.new.ends.items
    c.line_at-line.ensures.most c.line_at-line.ensures.width c.line_at-line.ensures.stop c.line_at-line.ensures.bytes
    c.at-at.ensures cells c.as_slice-shown.ensures.value before c.in_ok-place.ensures c.end_of_cells-end.ensures c.requires.ends c.end_at.ensures
    c.requires.above capped in
    (both.0, c.in_ok-push_strip.ensures ∙ ap (λ (ss : List Strip). map strip_of c.args.into.now.items ++ ss) both.1)
