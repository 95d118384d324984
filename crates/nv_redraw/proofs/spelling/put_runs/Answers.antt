use Rattle.std.proofs.Common.{arith}
use Rattle.nv_msgpack.proofs.Writing.{on_err}
use Rattle.nv_redraw.specs.Values.{run_tree}
use Rattle.nv_redraw.proofs.SpellingLemmas.{begins_more, begins_on, value_written}
use Rattle.nv_redraw.proofs.spelling.put_runs.Goals as goal

pub returns-in_err-put_run-clause-err : goal.returns-in_err-put_run-clause-err
returns-in_err-put_run-clause-err c =
    on_err c.from_residual.result (begins_on c.args.into.now.items c.loop-run.into.items c.put_run.new.into.items c.loop-run.invariant.kept c.in_err-put_run.ensures.err)

pub loop-run-preserved : goal.loop-run-preserved
loop-run-preserved c = record {
  kept = begins_more c.args.into.now.items c.loop-run.into.items c.put_run.new.into.items _ c.loop-run.invariant.kept c.in_ok-put_run.ensures.ok;
  all = value_written run_tree c.loop-run.into.items c.put_run.new.into.items _ c.args.runs.now c.loop-run.run-index c.run-item.result (omega arith) c.run-item.is c.loop-run.invariant.all c.in_ok-put_run.ensures.ok;
}
