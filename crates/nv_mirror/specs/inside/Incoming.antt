-- inside: what a value is to a client, as the code has it.
use Rattle.nv_rpc.specs.MessageView.{sent_of}
use Rattle.nv_mirror.specs.Listings.{Received, message, other_notice, neither}
use Rattle.nv_mirror.specs.declared.incoming.Incoming.{Incoming}
use Rattle.nv_mirror.specs.declared.incoming.Incoming.TheVariants.{Message, Other, Neither}

abbrev pub received_of : Incoming → Received
received_of (Message m) = message (sent_of m)
received_of Other = other_notice
received_of Neither = neither
