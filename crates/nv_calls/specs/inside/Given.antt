-- inside: what a stream gives that holds calls.
use Rattle.std.specs.Prelude.{◌≡◌, Some, None}
use Rattle.nv_value.specs.Content.{Tree}
use Rattle.nv_rpc.specs.Calls.{Call, call_in}
use Rattle.nv_rpc.specs.Frames.{call_of_frame}
use Rattle.nv_stream.specs.State.{State}
use Rattle.nv_stream.specs.Answers.{IsAnswer, TakesTree}
use Rattle.nv_stream.specs.declared.stream.Next.TheVariants.{More as AskMore, Flaw as TheFlaw}
use Rattle.nv_calls.specs.declared.calls.Given.{Given}
use Rattle.nv_calls.specs.declared.calls.Given.TheVariants as given

-- A value that is this call is taken from a stream.
abbrev pub TakesCall : Call → State → State → Type 0
TakesCall call old new = (t : Tree) × TakesTree t old new × (call_in t ≡ Some call)

-- What a stream may give that is asked for its next call: the call that is its next value, or that
-- this is none, or what it answers without a value.
abbrev pub IsGiven : Given → State → State → Type 0
IsGiven (given.Call call) old new = TakesCall (call_of_frame call) old new
IsGiven given.NoCall old new = (t : Tree) × TakesTree t old new × (call_in t ≡ None)
IsGiven given.More old new = IsAnswer AskMore old new
IsGiven (given.Flaw flaw) old new = IsAnswer (TheFlaw flaw) old new
