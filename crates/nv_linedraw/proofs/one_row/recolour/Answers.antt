use Rattle.std.proofs.Common.{◌≡◌, ◌∙◌, ◌<◌, ◌≤◌, drop, length, map, rules}
use Rattle.std.proofs.lemmas.List.{take_at}
use Rattle.nv_linedraw.specs.inside.OneRow.{recoloured}
use Rattle.nv_linedraw.proofs.OneRowLemmas.{changed_all, changed_step}
use Rattle.nv_linedraw.proofs.one_row.recolour.Goals as goal

pub loop-cell-preserved : goal.loop-cell-preserved
loop-cell-preserved c =
    let cs = c.args.cells.now.items in
    let lt : c.loop-cell.cell-index < length cs = search rules in
    changed_step (recoloured c.args.attr) c.loop-cell.cell-items cs c.loop-cell.cell-index c.cell-item.result lt c.loop-cell.invariant

pub returns : goal.returns
returns c =
    let f = recoloured c.args.attr in
    let cs = c.args.cells.now.items in
    let xs = c.loop-cell.cell-items in
    let past : length cs ≤ c.loop-cell.cell-index = search rules in
    let is : xs ≡ map f cs = changed_all f xs cs c.loop-cell.cell-index past c.loop-cell.invariant in
    let size : length xs ≡ c.args.cells.now.len = search rules in
    take_at xs (drop (length xs) cs) c.args.cells.now.len size ∙ is
