use Rattle.std.proofs.Common.{◌≡◌, ◌++◌, ◌∷◌, [], ◌∙◌, ap, arith, false, length-take-le, rules, sym, take, true}
use Rattle.nv_painter.specs.inside.Plain.{byte_shown, plain_shown}
use Rattle.nv_painter.specs.inside.Telling.{joins_at}
use Rattle.nv_painter.proofs.PlainLemmas.{front_at, plain_joins}
use Rattle.nv_painter.proofs.RunLemmas.{cell_ends, cell_joins}
use Rattle.nv_painter.proofs.plain.push_byte.Goals as goal

pub returns-then-is_same_next-clause-runs : goal.returns-then-is_same_next-clause-runs
returns-then-is_same_next-clause-runs c width le =
    let bytes = c.args.bytes.now in
    let cells = take c.args.end (plain_shown width bytes) in
    let answer : c.is_same_next.result ≡ true = search rules in
    let joins : joins_at cells c.args.at ≡ true =
    plain_joins width bytes c.args.end c.args.at c.requires.within le ∙ sym c.is_same_next.ensures ∙ answer in
    cell_joins cells c.args.at c.args.count c.args.last c.args.runs.now.items joins

pub returns-clause-runs : goal.returns-clause-runs
returns-clause-runs c width le =
    let bytes = c.args.bytes.now in
    let all = plain_shown width bytes in
    let cells = take c.args.end all in
    let cell = byte_shown c.byte_at.result in
    let answer : c.is_same_next.result ≡ false = search rules in
    let apart : joins_at cells c.args.at ≡ false =
    plain_joins width bytes c.args.end c.args.at c.requires.within le ∙ sym c.is_same_next.ensures ∙ answer in
    let put : c.push.new.self.items ≡ c.args.runs.now.items ++ c.run_of_byte-run.result ∷ [] = search rules in
    cell_ends cells c.args.at c.args.count c.args.last c.args.runs.now.items c.push.new.self.items cell c.run_of_byte-run.result
    (omega (arith, c.requires.within, length-take-le c.args.end all le))
    (ap byte_shown c.byte_at.ensures ∙ sym (front_at width bytes c.args.end c.args.at cell c.requires.within le))
    c.run_of_byte-run.ensures put apart
