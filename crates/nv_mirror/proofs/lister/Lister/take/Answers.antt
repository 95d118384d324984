use Rattle.std.proofs.Common.{◌≡◌, [], refl, rules}
use Rattle.std.proofs.lemmas.Result.{err_from_is_err_and}
use Rattle.nv_io.specs.declared.lanes.Flaw.TheVariants.{NoCall}
use Rattle.nv_rpc.specs.MessageView.{sent_of}
use Rattle.nv_mirror.specs.Listings.{message, other_notice, neither}
use Rattle.nv_mirror.specs.declared.followed.Followed.TheVariants.{Malformed}
use Rattle.nv_mirror.specs.inside.Incoming.{received_of}
use Rattle.nv_mirror.specs.inside.Steps.{known_of}
use Rattle.nv_mirror.proofs.Outs.{known_none}
use Rattle.nv_mirror.proofs.Values.{past_message, past_other, ends_message, past_as_received, ends_as_received}
use Rattle.nv_mirror.proofs.lister.Lister.take.Goals as goal

pub returns-in_err-take_message-in-Message-clause-takes : goal.returns-in_err-take_message-in-Message-clause-takes
returns-in_err-take_message-in-Message-clause-takes g c =
    let k = known_of c.args.self.now in
    let sent = sent_of c.in-Message.message in
    let f = c.in_err-take_message-in-Message.field-0.0 in
    let is : received_of c.args.incoming ≡ message (sent_of c.in-Message.message) = search rules in
    let t = c.in_err-take_message-in-Message.ensures.takes in
    let p = err_from_is_err_and c.from_residual.result c.from_residual.ensures.1 in
    rw (p.1, p.2) (t.0, t.1, ends_as_received f k t.0 (received_of c.args.incoming) (message sent) is (ends_message f k sent t.0 t.2))

pub returns-in_ok-take_message-in-Message-clause-takes : goal.returns-in_ok-take_message-in-Message-clause-takes
returns-in_ok-take_message-in-Message-clause-takes g c =
    let k = known_of c.args.self.now in
    let sent = sent_of c.in-Message.message in
    let is : received_of c.args.incoming ≡ message (sent_of c.in-Message.message) = search rules in
    let t = c.in_ok-take_message-in-Message.ensures.takes in
    (t.0, t.1, past_as_received k _ t.0 (received_of c.args.incoming) (message sent) is (past_message k (known_of c.take_message.new.self) _ sent t.0 t.2.0 t.2.1 t.2.2 refl))

pub returns-in-Other-clause-takes : goal.returns-in-Other-clause-takes
returns-in-Other-clause-takes g c =
    let k = known_of c.args.self.now in
    let is : received_of c.args.incoming ≡ other_notice = search rules in
    ([], known_none _, past_as_received k _ [] (received_of c.args.incoming) other_notice is (past_other k _ refl))

pub returns-in-Neither-clause-takes : goal.returns-in-Neither-clause-takes
returns-in-Neither-clause-takes g c =
    let k = known_of c.args.self.now in
    let is : received_of c.args.incoming ≡ neither = search rules in
    ([], known_none _, ends_as_received (Malformed (NoCall c.args.self.now.number)) k [] (received_of c.args.incoming) neither is (refl, refl))
