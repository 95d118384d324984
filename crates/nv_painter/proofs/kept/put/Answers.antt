use Rattle.std.proofs.Common.{◌≡◌, ◌≤◌, length, rules}
use Rattle.nv_painter.specs.Keys.{cells_of_key, most_cells}
use Rattle.nv_painter.proofs.KeptLemmas.{putting}
use Rattle.nv_painter.proofs.kept.put.Goals as goal

pub returns-clause-kept : goal.returns-clause-kept
returns-clause-kept c =
    let row = c.new-row.result in
    let is : row ≡ cells_of_key c.args.key = search rules in
    let small : length row ≤ most_cells = search rules in
    (putting c.args.key row c.args.cache.now c.put.new.self c.requires.kept c.requires.absent is small c.in_ok-put.ensures.entries).kept

pub returns-clause-keys : goal.returns-clause-keys
returns-clause-keys c =
    let row = c.new-row.result in
    let is : row ≡ cells_of_key c.args.key = search rules in
    let small : length row ≤ most_cells = search rules in
    (putting c.args.key row c.args.cache.now c.put.new.self c.requires.kept c.requires.absent is small c.in_ok-put.ensures.entries).keys
