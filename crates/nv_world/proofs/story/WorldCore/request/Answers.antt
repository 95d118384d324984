use Rattle.nv_rpc.specs.Frames.{call_of_frame}
use Rattle.nv_history.specs.Events.{request_of}
use Rattle.nv_core.specs.declared.entry.Event.TheVariants as event
use Rattle.nv_world.specs.Worlds.{outcome_of_event}
use Rattle.nv_world.proofs.Gaining.{calls_gained, calls_spends}
use Rattle.nv_world.proofs.story.WorldCore.request.Goals as goal

pub returns-clause-gains : goal.returns-clause-gains
returns-clause-gains g c =
    calls_gained c.args.self.now c.request.new.self c.args.caller c.args.session c.args.frame c.request.result c.request.ensures.ok c.request.ensures.err c.request.ensures.gone

pub returns-clause-spends : goal.returns-clause-spends
returns-clause-spends g c =
    calls_spends c.args.self.now c.request.new.self (record { caller = c.args.caller; event = event.Request c.args.session c.args.frame })
    (outcome_of_event c.args.self.now (request_of c.args.session (call_of_frame c.args.frame))) c.args.session c.args.frame c.request.result
    c.request.ensures.ok c.request.ensures.err (λ spent. (c.request.ensures.spent spent).0)
