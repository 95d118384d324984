use Rattle.std.proofs.Common.{◌≡◌, ◌∙◌, Some, rules, ap}
use Rattle.clap.specs.declared.builder.value_parser.ValueParser.{ValueParser}
use Rattle.clap.specs.declared.builder.value_parser.ValueParser.TheVariants as vp
use Rattle.nv_words.proofs.reading.buffer.Goals as goal

pub returns-clause-rule : goal.returns-clause-rule
returns-clause-rule c =
    let given = c.value_parser-2.ensures.given in
    let made : c.range.result ≡ vp.Unsigned 1 4611686018427387904 = rw c.value_parser.ensures at c.range.ensures in
    let parser : c.value_parser-2.result.value_parser ≡ Some (vp.Unsigned 1 4611686018427387904) = given.1 ∙ ap (λ (q : ValueParser). Some q) (given.2 ∙ made) in
    search (rules, parser)
