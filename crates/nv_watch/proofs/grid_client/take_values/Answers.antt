use Rattle.std.proofs.Common.{◌<◌, ◌+◌, length, map, take, rules, subst, sym}
use Rattle.nv_value.specs.View.{content}
use Rattle.nv_watch.specs.declared.grid_client.Taken.{Taken}
use Rattle.nv_watch.specs.inside.GridsTaken.{TookValues}
use Rattle.nv_watch.proofs.GridClients.{took_next}
use Rattle.nv_watch.proofs.grid_client.take_values.Goals as goal

pub loop-value-preserved : goal.loop-value-preserved
loop-value-preserved c =
    let below : c.loop-value.value-index < length c.args.values.now = search rules in
    subst (λ (k : Taken). TookValues (map content (take (c.loop-value.value-index + 1) c.args.values.now)) c.args.client.now c.take_value.new.client k) (sym c.with-taken.ensures)
    (took_next c.args.values.now c.loop-value.value-index c.value-item.result _ _ _ _ _ below c.value-item.is c.loop-value.invariant c.in_ok-take_value.ensures)
