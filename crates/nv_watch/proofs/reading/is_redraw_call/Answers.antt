use Rattle.std.proofs.Common.{sym, arith}
use Rattle.nv_watch.proofs.Readings.{other_count}
use Rattle.nv_watch.proofs.reading.is_redraw_call.Goals as goal

pub returns-in_default : goal.returns-in_default
returns-in_default c = sym (other_count c.args.items.now (λ e. omega (arith, c.in_default.len_below, e)))

pub returns-in_default-2 : goal.returns-in_default-2
returns-in_default-2 c = sym (other_count c.args.items.now (λ e. omega (arith, c.in_default.len_at_least, e)))
