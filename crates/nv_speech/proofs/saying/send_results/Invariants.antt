-- What has been put, with what is left, is all of it.
use Rattle.std.proofs.Common.{◌≤◌, drop}
use Rattle.nv_rpc.specs.Outcomes.{call_result_content}
use Rattle.nv_rpc.proofs.Puts.{all_spelled}
use Rattle.nv_speech.proofs.Flowing.{IsGoing}
use Rattle.nv_speech.proofs.saying.send_results.Given as goal

abbrev pub invariant-loop-one : goal.invariant-loop-one
invariant-loop-one g l = record {
  going : IsGoing (g.S.Sink.words l.initial.output).taken (g.S.Sink.words l.output).taken l.initial.room.items l.room.items
      (all_spelled call_result_content (drop l.one-index l.results)) (all_spelled call_result_content l.results);
  later : (g.S.Sink.words l.initial.output).faults ≤ (g.S.Sink.words l.output).faults;
}
