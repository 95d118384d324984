use Rattle.std.proofs.Common.{◌∙◌}
use Rattle.nv_rpc.specs.MessageView.{sent_of}
use Rattle.nv_watch.specs.declared.mirror.Followed.{Followed}
use Rattle.nv_watch.proofs.Mirrored.{ok_on}
use Rattle.nv_watch.proofs.SharedRows.{took_if}
use Rattle.nv_watch.proofs.followed.take_one.Goals as goal

pub returns-clause-shares : goal.returns-clause-shares
returns-clause-shares c =
    let old = c.args.followed.now in
    let new : Followed = record {
      session = old.session;
      buffer = old.buffer;
      follower = c.take.new.self;
      ends = c.ends_behind-followed.result;
      about = c.take.ensures.buffer ∙ old.about;
    } in
    ok_on c.take.result (λ ok. λ text h. took_if old new (sent_of c.args.message.now) text c.ends_behind-followed.ensures ok h) c.take.ensures.ok
