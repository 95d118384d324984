use Rattle.std.proofs.Common.{arith}
use Rattle.nv_value.specs.Content.{text}
use Rattle.nv_rpc.proofs.Puts.{one_more_put, all_were_put, spelled_at}
use Rattle.nv_rpc.proofs.outcome.put_strings.Goals as goal

pub put_string-requires : goal.put_string-requires
put_string-requires c = spelled_at text c.args.lines.now c.loop-line.line-index c.line-item.result (omega arith) c.line-item.is c.requires

pub loop-line-preserved : goal.loop-line-preserved
loop-line-preserved c =
    one_more_put text c.args.lines.now c.loop-line.line-index c.line-item.result c.loop-line.into.items c.put_string.new.into.items _ (omega arith) c.line-item.is
    c.loop-line.invariant c.in_ok-put_string.ensures

pub returns : goal.returns
returns c =
    all_were_put text c.args.lines.now c.loop-line.line-index c.args.into.now.items c.loop-line.into.items (omega arith) c.loop-line.invariant
