use Rattle.std.proofs.Common.{◌≡◌, ◌∙◌, arith, rules, length}
use Rattle.std.proofs.lemmas.List.{nil_from_length}
use Rattle.nv_lines.proofs.Splices.{remove_is_splice}
use Rattle.nv_lines.proofs.held.exchange_many.Goals as goal

pub returns-then-to-from-eq1-clause-ok : goal.returns-then-to-from-eq1-clause-ok
returns-then-to-from-eq1-clause-ok c =
    let none : length c.args.new.items ≡ 0 = search rules in
    c.remove.ensures.items
    ∙ remove_is_splice c.args.lines.now.items c.args.new.items c.args.from c.args.to (omega (arith, c.requires.order))
    (nil_from_length c.args.new.items none)
