-- inside: what a call is beside its method and arguments.
use Rattle.nv_rpc.specs.Calls.{Call, request, notice}
use Rattle.nv_rpc.specs.declared.frame.Head.{Head}
use Rattle.nv_rpc.specs.declared.frame.Head.TheVariants.{Answered, Unanswered}

-- A call without its method and arguments.
abbrev pub head_of_call : Call → Head
head_of_call (request msgid method params) = Answered msgid
head_of_call (notice method params) = Unanswered

-- A call's method and arguments, as a notification has them.
abbrev pub without_msgid : Call → Call
without_msgid (request msgid method params) = notice method params
without_msgid (notice method params) = notice method params
