use Rattle.std.proofs.Common.{◌≡◌, ◌+◌, ◌-◌, ◌∙◌, ◌++◌, ◌∷◌, [], suc, ap, sym, arith, drop, slice_range}
use Rattle.nv_lines.proofs.Ranges.{slice_range-before, slice_range-more}
use Rattle.nv_lines.proofs.exchange.exchange_shrinking.Goals as goal

pub returns-clause-taken : goal.returns-clause-taken
returns-clause-taken g c =
    let place : c.args.to - 1 + 1 ≡ c.args.to = omega (arith, c.requires.fewer) in
    let xs = c.args.items.now.items in
    c.push_reserved.ensures.items
    ∙ ap (λ l. l ++ c.remove-last.result ∷ []) c.exchange_each-taken.ensures.taken
    ∙ ap (λ l. slice_range l c.args.from (c.args.to - 1) ++ c.remove-last.result ∷ []) c.remove-last.ensures.items
    ∙ ap (λ l. l ++ c.remove-last.result ∷ [])
    (slice_range-before xs (drop (suc (c.args.to - 1)) xs) (c.args.to - 1) c.args.from (c.args.to - 1) (omega arith) (omega (arith, c.requires.within)))
    ∙ ap (λ x. slice_range xs c.args.from (c.args.to - 1) ++ x ∷ []) c.remove-last.ensures.value
    ∙ sym (slice_range-more xs c.args.from (c.args.to - 1) c.remove-last.result (omega (arith, c.requires.fewer)) (omega (arith, c.requires.fewer, c.requires.within)))
    ∙ ap (slice_range xs c.args.from) place
