use Rattle.std.proofs.Common.{arith}
use Rattle.nv_value.specs.View.{contents}
use Rattle.nv_rpc.proofs.WholeRequests.{is_request}
use Rattle.nv_rpc.proofs.arriving.request_of.Goals as goal

pub returns : goal.returns
returns c =
    let small = c.ranges.msgid.fits in
    is_request c.args.msgid c.args.method (contents c.args.params.items) (omega arith)
