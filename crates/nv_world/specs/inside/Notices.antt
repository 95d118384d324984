-- inside: what several sessions are told.
use Rattle.std.specs.Arc.{arc_value}
use Rattle.nv_rpc.specs.Messages.{Sent, detach_event}
use Rattle.nv_core.specs.Contents.{sent_of_lines}
use Rattle.nv_world.specs.declared.notices.Notice.{Notice}
use Rattle.nv_world.specs.declared.notices.Notice.TheVariants.{Lines, Detach}

-- the message that tells it
abbrev pub sent_of_notice : Notice → Sent
sent_of_notice (Lines lines) = sent_of_lines (arc_value lines)
sent_of_notice (Detach buffer) = detach_event buffer
