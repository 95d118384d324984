-- inside: what an opening came to, and both halves of a session.
use Rattle.std.specs.Prelude.{◌≡◌, ℕ, List, Result, Ok, Err}
use mathlib.Core.List.{IsPrefix}
use Rattle.nv_turn.specs.Passes.{IsSamePass}
use Rattle.nv_io.specs.Streams.{Gave}
use Rattle.nv_io.specs.declared.lanes.Ended.{Ended}
use Rattle.nv_io.specs.declared.lanes.Ended.TheVariants.{Quit, NoMemory}
use Rattle.nv_history.specs.Events.{Entry}
use Rattle.nv_history.specs.Asking.{takes_by, calls_of}
use Rattle.nv_core.specs.declared.calls.Unopened.{Unopened}
use Rattle.nv_core.specs.declared.calls.Unopened.TheVariants as unopened
use Rattle.nv_halves.specs.Passes.{WorldPass, OfEach, IsFromReader, IsFromWriter, GainedEach}
use Rattle.nv_io.specs.Words.{HalvesWords}
use Rattle.nv_session.specs.Connections.{ConnectionEnds, traffic_of}

-- the session that was opened, or the end of a connection that has none
abbrev pub what_was_opened : Result ℕ Unopened → Result ℕ Ended
what_was_opened (Ok s) = Ok s
what_was_opened (Err (unopened.Ended entry)) = Err (Quit entry)
what_was_opened (Err unopened.NoMemory) = Err NoMemory

-- Both halves of a session that is open, from what its passes had seen then.
pub record ServesHalves {I S : Type 0} (t : HalvesWords I S) (p q p_after q_after : WorldPass)
    (input input_after : I) (output output_after : S) (s : ℕ) (how : Ended) : Type 0 where
  pub first : IsSamePass p p_after
  pub second : IsSamePass q q_after
  pub asked : List Entry
  pub taken : List Entry
  pub gains_one : GainedEach (IsFromReader s) p.number p.seen p_after.seen asked
  pub gains_other : GainedEach (IsFromWriter s) q.number q.seen q_after.seen taken
  pub bytes : List ℕ
  pub read : Gave (t.input input).taken (t.input input_after).taken (t.input input).left
      (t.input input_after).left bytes
  pub ends : OfEach p.start p_after.seen (λ history world.
      IsPrefix q_after.seen history → takes_by s history ≡ takes_by s taken
      → calls_of s history ≡ calls_of s asked
      → ConnectionEnds how p.start s history world
      (traffic_of t bytes input_after output output_after))
