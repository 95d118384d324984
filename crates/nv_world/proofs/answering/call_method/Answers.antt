use Rattle.nv_world.proofs.Called.{came_to}
use Rattle.nv_world.proofs.answering.call_method.Goals as goal

pub returns-in-Ok-clause-called : goal.returns-in-Ok-clause-called
returns-in-Ok-clause-called c = λ m stands.
    came_to m c.args.session c.args.name.now c.args.params.now _ _ _ _ _ _ c.into_facts.ensures c.new-happened.ensures (c.in-Ok.ensures.outcome m stands)

pub returns-in-Err-Api-clause-called : goal.returns-in-Err-Api-clause-called
returns-in-Err-Api-clause-called c = λ m stands.
    came_to m c.args.session c.args.name.now c.args.params.now _ _ _ _ _ _ c.into_facts-in-Err-Api.ensures c.new-happened.ensures
    ((rw c.in-Err-Api.field-0-is at c.in-Err-Api.ensures.outcome) m stands)
