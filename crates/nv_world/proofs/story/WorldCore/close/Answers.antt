use Rattle.nv_history.specs.Events.{close_of}
use Rattle.nv_core.specs.declared.entry.Event.TheVariants as event
use Rattle.nv_world.specs.Worlds.{outcome_of_event}
use Rattle.nv_world.proofs.Gaining.{closes_gained, closes_spends}
use Rattle.nv_world.proofs.story.WorldCore.close.Goals as goal

pub returns-clause-gains : goal.returns-clause-gains
returns-clause-gains g c =
    closes_gained c.args.self.now c.close.new.self c.args.caller c.args.session c.close.result c.close.ensures.ok c.close.ensures.err c.close.ensures.gone

pub returns-clause-spends : goal.returns-clause-spends
returns-clause-spends g c =
    closes_spends c.args.self.now c.close.new.self (record { caller = c.args.caller; event = event.Close c.args.session })
    (outcome_of_event c.args.self.now (close_of c.args.session)) c.args.session c.close.result
    c.close.ensures.ok c.close.ensures.err (λ spent. (c.close.ensures.spent spent).0)
