use Rattle.std.proofs.Common.{◌≡◌, ◌+◌, ◌^◌, ◌<◌, length, map, drop, None}
use Rattle.nv_value.specs.View.{content}
use Rattle.nv_rpc.specs.Outcomes.{call_result_content}
use Rattle.nv_model.specs.Editors.{ModelEditor}
use Rattle.nv_model.specs.Standing.{Stands}
use Rattle.nv_dispatch.specs.Calls.{batch_of_values}
use Rattle.nv_dispatch.specs.inside.Batches.{CanBeListed, IsMadeSoFar}
use Rattle.nv_dispatch.specs.inside.Weights.{list_weight}
use Rattle.nv_dispatch.proofs.calling.call_each.Given as goal

abbrev pub invariant-loop-call : goal.invariant-loop-call
invariant-loop-call l = record {
  going : l.made.stopped ≡ None;
  light : length l.made.values.items + list_weight (map content (drop l.call-index l.calls)) < 2 ^ 31;
  listed : CanBeListed l.made;
  so_far : (m : ModelEditor) → Stands l.initial.editor m
      → IsMadeSoFar (batch_of_values 0 m l.fn.session (map content l.calls)) m l.fn.session (map call_result_content l.made.values.items) l.made.is_seen
      (map content (drop l.call-index l.calls)) l.editor l.initial.happened l.happened;
}
