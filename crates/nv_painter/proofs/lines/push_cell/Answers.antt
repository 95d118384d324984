use Rattle.std.proofs.Common.{◌≡◌, ◌+◌, ◌++◌, ◌∷◌, [], ◌∙◌, Some, true, false, ap, drop, rules}
use Rattle.nv_linegrid.specs.Client.{Shown}
use Rattle.nv_painter.specs.inside.Telling.{joins_at, runs_with}
use Rattle.nv_painter.proofs.RunLemmas.{cell_ends, cell_joins}
use Rattle.nv_painter.proofs.lines.push_cell.Goals as goal

pub returns-then-joins_next-clause-runs : goal.returns-then-joins_next-clause-runs
returns-then-joins_next-clause-runs c =
    let joins : joins_at c.args.cells.now c.args.at ≡ true = search rules in
    cell_joins c.args.cells.now c.args.at c.args.count c.args.last c.args.runs.now.items joins

pub returns-clause-runs : goal.returns-clause-runs
returns-clause-runs c =
    let apart : joins_at c.args.cells.now c.args.at ≡ false = search rules in
    let put : c.push.new.self.items ≡ c.args.runs.now.items ++ c.in_ok-run.run' ∷ [] = search rules in
    ap (λ id. c.push.new.self.items ++ runs_with (Some id) 1 (drop (c.args.at + 1) c.args.cells.now)) (ap (λ (s : Shown). s.id) c.cell.view_is)
    ∙ cell_ends c.args.cells.now c.args.at c.args.count c.args.last c.args.runs.now.items c.push.new.self.items c.index-cells-at.result c.in_ok-run.run'
    c.requires.within c.index-cells-at.is c.in_ok-run.ensures put apart
