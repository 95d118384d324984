use Rattle.std.proofs.Common.{◌∙◌, ap, arith, set}
use Rattle.nv_lines.proofs.Splices.{set_is_splice}
use Rattle.nv_lines.proofs.held.exchange_one.Goals as goal

pub returns-then-to-from-eq1-clause-ok : goal.returns-then-to-from-eq1-clause-ok
returns-then-to-from-eq1-clause-ok c =
    ap (set c.args.lines.now.items c.args.from) c.replace-taken.ensures.after
    ∙ set_is_splice c.args.lines.now.items c.args.line c.args.from c.args.to (omega (arith, c.requires.within)) (omega (arith, c.requires.order))
