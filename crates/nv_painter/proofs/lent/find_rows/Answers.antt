use Rattle.std.proofs.Common.{rules}
use Rattle.nv_painter.specs.inside.Lent.{IsLone, lent_content}
use Rattle.nv_painter.proofs.LentLemmas.{lone_is_found}
use Rattle.nv_painter.proofs.lent.find_rows.Goals as goal

pub returns-then-is_lone : goal.returns-then-is_lone
returns-then-is_lone c =
    let lone : IsLone (lent_content c.args.key) = search rules in
    lone_is_found (lent_content c.args.key) lone
