use Rattle.std.proofs.Common.{[], refl}
use Rattle.nv_rpc.specs.MessageView.{sent_of}
use Rattle.nv_mirror.specs.inside.Steps.{known_of}
use Rattle.nv_mirror.proofs.Outs.{known_none}
use Rattle.nv_mirror.proofs.Values.{accepted_is, refusal_stop}
use Rattle.nv_mirror.proofs.lister.Lister.take_message.Goals as goal

pub returns-then-is_refusal-clause-takes : goal.returns-then-is_refusal-clause-takes
returns-then-is_refusal-clause-takes g c =
    ([], known_none _, (refusal_stop (known_of c.args.self.now) (sent_of c.args.message) _ c.refusal_of.ensures, refl))

pub take_event-taken-requires-clause-accepted : goal.take_event-taken-requires-clause-accepted
take_event-taken-requires-clause-accepted g c =
    accepted_is (sent_of c.args.message) c.is_refusal.result c.is_refusal.ensures c.if-is_refusal.false
