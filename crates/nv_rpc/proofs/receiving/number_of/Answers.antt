-- The clauses of `handle_of` in one equation.
use Rattle.std.proofs.Common.{pos}
use Rattle.nv_value.specs.View.{content}
use Rattle.nv_rpc.proofs.HandleRead.{handle_seen}
use Rattle.nv_rpc.proofs.receiving.number_of.Goals as goal

pub returns : goal.returns
returns c = handle_seen (pos 0) (content c.args.value.now) c.handle_of.result c.handle_of.ensures.some c.handle_of.ensures.none
