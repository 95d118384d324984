use Rattle.std.proofs.Common.{◌++◌, arith}
use Rattle.nv_layout.specs.inside.Measured.{zeros}
use Rattle.nv_layout.proofs.Measuring.{zeros_more, zeros_all}
use Rattle.nv_layout.proofs.placing.push_zeros.Goals as goal

pub loop-preserved : goal.loop-preserved
loop-preserved c = zeros_more c.loop.into.items c.push.new.self.items c.args.count c.loop.counter (c.args.into.now.items ++ zeros c.args.count) c.loop-test.true c.in_ok-push.ensures.items c.loop.invariant

pub returns : goal.returns
returns c = zeros_all c.loop.into.items c.args.count c.loop.counter (c.args.into.now.items ++ zeros c.args.count) (omega (arith, c.loop-test.false)) c.loop.invariant
