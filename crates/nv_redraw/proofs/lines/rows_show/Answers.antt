use Rattle.std.proofs.Common.{arith, ◌++◌}
use Rattle.nv_linegrid.specs.Client.{first_table}
use Rattle.nv_redraw.proofs.ScreenLemmas.{rows_lengths_differ}
use Rattle.nv_redraw.proofs.lines.rows_show.Goals as goal

pub returns-then-shown-rows : goal.returns-then-shown-rows
returns-then-shown-rows c = rows_lengths_differ (c.args.table.now ++ first_table) c.args.shown.now c.args.rows.now (λ e. omega (arith, e))
