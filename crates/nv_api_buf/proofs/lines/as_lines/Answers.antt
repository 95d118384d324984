use Rattle.std.proofs.Common.{subst}
use Rattle.nv_value.specs.Content.{Trees, list}
use Rattle.nv_msgpack.specs.Shortest.{HasSpelling}
use Rattle.nv_api_buf.proofs.Deciding.{lines_give, lines_fault}
use Rattle.nv_api_buf.proofs.TextLemmas.{strings_are}
use Rattle.nv_api_buf.proofs.lines.as_lines.Goals as goal

pub returns-in-Ok-clause-answer : goal.returns-in-Ok-clause-answer
returns-in-Ok-clause-answer c = λ answer e told reads.
    lines_give answer c.in-Ok.lines e told (rw c.in-Ok.is at reads)

pub returns-in-Ok-clause-spelled : goal.returns-in-Ok-clause-spelled
returns-in-Ok-clause-spelled c =
    subst (λ (ts : Trees). HasSpelling (list ts)) (strings_are c.in-Ok.lines) (rw c.in-Ok.is at c.requires)

pub returns-in-Err-clause-answer : goal.returns-in-Err-clause-answer
returns-in-Err-clause-answer c = λ answer e told reads.
    lines_fault answer c.in-Err.fail e told (rw c.in-Err.is at reads)
