use Rattle.nv_history.specs.Events.{take_of}
use Rattle.nv_core.specs.declared.entry.Event.TheVariants as event
use Rattle.nv_world.specs.Worlds.{outcome_of_event}
use Rattle.nv_world.proofs.Gaining.{takes_gained, takes_spends}
use Rattle.nv_world.proofs.story.WorldCore.take.Goals as goal

pub returns-clause-gains : goal.returns-clause-gains
returns-clause-gains g c =
    takes_gained c.args.self.now c.take.new.self c.args.caller c.args.session c.take.result c.take.ensures.ok c.take.ensures.err c.take.ensures.sendable c.take.ensures.cells

pub returns-clause-spends : goal.returns-clause-spends
returns-clause-spends g c =
    takes_spends c.args.self.now c.take.new.self (record { caller = c.args.caller; event = event.Take c.args.session })
    (outcome_of_event c.args.self.now (take_of c.args.session)) c.args.session c.take.result
    c.take.ensures.ok c.take.ensures.err (λ spent. (c.take.ensures.spent spent).0)
