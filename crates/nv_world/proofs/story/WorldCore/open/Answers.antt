use Rattle.nv_history.specs.Events.{open_session}
use Rattle.nv_core.specs.declared.entry.Event.TheVariants as event
use Rattle.nv_world.specs.Worlds.{outcome_of_event}
use Rattle.nv_world.proofs.Gaining.{opens_gained, opens_spends}
use Rattle.nv_world.proofs.story.WorldCore.open.Goals as goal

pub returns-clause-gains : goal.returns-clause-gains
returns-clause-gains g c =
    opens_gained c.args.self.now c.open.new.self c.args.caller c.open.result c.open.ensures.ok c.open.ensures.err

pub returns-clause-spends : goal.returns-clause-spends
returns-clause-spends g c =
    opens_spends c.args.self.now c.open.new.self (record { caller = c.args.caller; event = event.Open }) (outcome_of_event c.args.self.now open_session) c.open.result
    c.open.ensures.ok c.open.ensures.err (λ spent. (c.open.ensures.spent spent).0)
