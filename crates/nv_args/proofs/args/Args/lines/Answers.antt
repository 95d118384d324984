use Rattle.std.proofs.Common.{List, [], ℕ, Option, Some, ap, sym, ◌∙◌}
use Rattle.std.specs.Prelude.{unwrap_or}
use Rattle.nv_value.specs.Content.{Trees}
use Rattle.nv_args.specs.Arguments.{strings_in}
use Rattle.nv_args.proofs.KindLemmas.{all-strings, not-all-strings}
use Rattle.nv_args.proofs.args.Args.lines.Goals as goal

pub returns-then-are_strings : goal.returns-then-are_strings
returns-then-are_strings c =
    all-strings c.values-values.result.now _ c.are_strings.ensures c.if-are_strings.true
    ∙ ap (λ (ts : Trees). Some (unwrap_or (strings_in ts) [])) c.values-values.ensures

pub returns-else-are_strings : goal.returns-else-are_strings
returns-else-are_strings c =
    let none = not-all-strings c.values-values.result.now _ c.are_strings.ensures c.if-are_strings.false in
    ap (λ (o : Option (List (List ℕ))). Some (unwrap_or o [])) (sym none ∙ ap strings_in c.values-values.ensures)
