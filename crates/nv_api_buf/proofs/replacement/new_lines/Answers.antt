use Rattle.std.proofs.Common.{◌≡◌, ◌∷◌, [], List, map, arith, subst}
use Rattle.nv_value.specs.View.{content}
use Rattle.nv_value.specs.declared.value.Value.{Value}
use Rattle.nv_model.specs.Answers.{Answer}
use Rattle.nv_api_buf.specs.inside.Parts.{texts_of}
use Rattle.nv_api_buf.specs.inside.Deciding.{Leaves, unless_newline}
use Rattle.nv_api_buf.proofs.TextLemmas.{sole}
use Rattle.nv_api_buf.proofs.replacement.new_lines.Goals as goal

pub returns-in-len1-clause-row : goal.returns-in-len1-clause-row
returns-in-len1-clause-row c =
    let same : c.value-item.result ∷ [] ≡ c.args.strings.now =
    sole c.args.strings.now c.value-item.result (omega (arith, c.in-len1.len_at_least, c.in-len1.len_below)) c.value-item.is in
    subst (λ (vs : List Value). (answer : Answer) → Leaves (unless_newline (texts_of (map content vs)) answer) (λ _. answer) c.one_line.result) same
    c.one_line.ensures.row
