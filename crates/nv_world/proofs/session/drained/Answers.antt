use Rattle.std.proofs.Common.{ap, ◌∙◌, Some, None}
use Rattle.nv_world.proofs.Draining.{popped, one_taken, all_taken}
use Rattle.nv_world.proofs.session.drained.Goals as goal

pub all-preserved : goal.all-preserved
all-preserved c =
    let goes = popped c.all.outbox.items c.pop_back.new.self.items (Some c.in-Some.message) c.in-Some.ensures.value
    (ap (λ b. b.items) c.in-Some.ensures.items) in (
      one_taken c.args.outbox.now.items c.all.outbox.items c.pop_back.new.self.items c.all.messages.items c.push.new.self.items
          c.in-Some.message goes c.in_ok-push.ensures.items c.all.invariant.0,
      ap (λ b. b.capacity) c.in-Some.ensures.items ∙ c.all.invariant.1,
    )

pub returns-clause-messages : goal.returns-clause-messages
returns-clause-messages c =
    let goes = popped c.all.outbox.items c.pop_back.new.self.items None c.in_default.ensures.value
    (ap (λ b. b.items) c.in_default.ensures.items) in
    all_taken c.args.outbox.now.items c.all.outbox.items c.all.messages.items c.reverse.new.self.items goes.0
    c.reverse.ensures.items c.all.invariant.0

pub returns-clause-empty : goal.returns-clause-empty
returns-clause-empty c =
    let goes = popped c.all.outbox.items c.pop_back.new.self.items None c.in_default.ensures.value
    (ap (λ b. b.items) c.in_default.ensures.items) in
    goes.1
