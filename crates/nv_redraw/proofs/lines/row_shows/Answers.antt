use Rattle.std.proofs.Common.{arith, ◌++◌}
use Rattle.nv_linegrid.specs.Client.{first_table}
use Rattle.nv_redraw.proofs.ScreenLemmas.{row_lengths_differ}
use Rattle.nv_redraw.proofs.lines.row_shows.Goals as goal

pub returns-then-shown-cells : goal.returns-then-shown-cells
returns-then-shown-cells c = row_lengths_differ (c.args.table.now ++ first_table) c.args.shown.now c.args.cells.now (λ e. omega (arith, e))
