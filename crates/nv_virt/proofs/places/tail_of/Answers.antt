use Rattle.std.proofs.Common.{◌≡◌, ◌<◌, ◌+◌, ◌∙◌, ◌%◌, ◌/◌, ℕ, true, false, min, ap, subst, sym, arith, rules}
use Rattle.nv_linedraw.specs.LineCells.{line_length}
use Rattle.nv_virt.specs.Texts.{tail_of_line}
use Rattle.nv_virt.specs.inside.Capped.{IsPlaceNear}
use Rattle.nv_virt.proofs.PlaceLemmas.{full_tail, part_tail}
use Rattle.nv_virt.proofs.places.tail_of.Goals as goal

pub returns-then-begins_row : goal.returns-then-begins_row
returns-then-begins_row c =
    let line = c.args.line.now in
    let most : c.in-Some.most ≡ line.most + 1 = search rules in
    let n = line_length line.width line.tabstop line.bytes.now in
    full_tail line.most line.width c.in_ok-row.row c.in_ok-row.col n
    (c.in_ok-row.ensures.row ∙ ap (λ m. min m (n / line.width)) most)
    (λ below. c.in_ok-row.ensures.col (omega (arith, below, most)))
    (sym c.begins_row.ensures ∙ c.if-begins_row.true)

pub returns : goal.returns
returns c =
    let line = c.args.line.now in
    let most : c.in-Some.most ≡ line.most + 1 = search rules in
    let n = line_length line.width line.tabstop line.bytes.now in
    let row : c.min.result ≡ min c.in_ok-row.row line.most = omega (arith, c.min.ensures) in
    subst (λ (r : ℕ). IsPlaceNear line.most line.width (r, c.in_ok-row.col) (tail_of_line line.width line.tabstop line.bytes.now)) (sym row)
    (part_tail line.most line.width c.in_ok-row.row c.in_ok-row.col n
    (c.in_ok-row.ensures.row ∙ ap (λ m. min m (n / line.width)) most)
    (λ below. c.in_ok-row.ensures.col (omega (arith, below, most)))
    (sym c.begins_row.ensures ∙ c.if-begins_row.false))
