use Rattle.nv_editor.proofs.Giving.{fault_gives}
use Rattle.nv_editor.proofs.answering.as_outcome.Goals as goal

pub returns-in-Ok-clause-answer : goal.returns-in-Ok-clause-answer
returns-in-Ok-clause-answer c = λ answer before after told now gives.
    rw c.in-Ok.is at gives

pub returns-in-Ok-clause-spelled : goal.returns-in-Ok-clause-spelled
returns-in-Ok-clause-spelled c = rw c.in-Ok.is at c.requires

pub returns-in-Err-clause-answer : goal.returns-in-Err-clause-answer
returns-in-Err-clause-answer c = λ answer before after told now gives.
    fault_gives answer c.in-Err.fail before after told now (rw c.in-Err.is at gives)
