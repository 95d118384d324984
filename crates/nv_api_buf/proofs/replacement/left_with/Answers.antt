use Rattle.std.proofs.Common.{sym, arith}
use Rattle.nv_api_buf.proofs.Splices.{left_with-some, length-splice}
use Rattle.nv_api_buf.proofs.replacement.left_with.Goals as goal

pub returns-then-rest-gt0-clause-same : goal.returns-then-rest-gt0-clause-same
returns-then-rest-gt0-clause-same c =
    sym (left_with-some _ c.args.lines (omega (arith, length-splice c.args.text.now c.args.lines c.args.from c.args.to c.requires.order c.requires.within)))
