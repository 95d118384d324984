use Rattle.std.proofs.Common.{◌≡◌, ◌∙◌, ◌∷◌, ap, arith, rules, drop, slice_range}
use Rattle.std.specs.List.{insert}
use Rattle.nv_lines.proofs.Ranges.{slice_range-before}
use Rattle.nv_lines.proofs.exchange.exchange_growing.Goals as goal

pub returns-clause-taken : goal.returns-clause-taken
returns-clause-taken g c =
    let put : c.insert.new.self.items ≡ insert c.args.items.now.items c.args.to c.remove-last.result = search rules in
    c.exchange_each.ensures.taken
    ∙ ap (λ l. slice_range l c.args.from c.args.to) put
    ∙ slice_range-before c.args.items.now.items (c.remove-last.result ∷ drop c.args.to c.args.items.now.items) c.args.to c.args.from c.args.to
    (omega arith) c.requires.within
