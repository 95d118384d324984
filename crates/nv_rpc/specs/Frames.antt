-- What a `Frame` holds.
use Rattle.nv_value.specs.View.{contents}
use Rattle.nv_rpc.specs.Calls.{Call, request, notice}
use Rattle.nv_rpc.specs.declared.frame.Frame.{Frame}
use Rattle.nv_rpc.specs.declared.frame.Frame.TheVariants.{Request, Notice}

-- The call that a frame holds.
abbrev pub call_of_frame : Frame → Call
call_of_frame (Request msgid method params) = request msgid method (contents params.items)
call_of_frame (Notice method params) = notice method (contents params.items)
