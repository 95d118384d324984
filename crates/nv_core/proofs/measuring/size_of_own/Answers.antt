use Rattle.std.proofs.Common.{sym, ap, ◌∙◌}
use Rattle.nv_rpc.specs.MessageView.{sent_of}
use Rattle.nv_rpc.specs.declared.message.Message.{Message}
use Rattle.nv_core.specs.Sizes.{memory_of_sent}
use Rattle.nv_core.proofs.measuring.size_of_own.Goals as goal

pub returns-in-Reply : goal.returns-in-Reply
returns-in-Reply c =
    c.size_of_reply.ensures c.in-Reply.msgid
    ∙ sym (ap (λ (m : Message). memory_of_sent (sent_of m)) c.in-Reply.is)
