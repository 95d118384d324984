-- What has entered, and what will of the entries that are left, is all that enters.
use Rattle.std.proofs.Common.{◌≡◌, ◌++◌, Some}
use Rattle.std.specs.List.{AllByRecursion}
use Rattle.std.specs.Vec.Iter.{into_iter_items}
use Rattle.nv_history.specs.Worlds.{World, fresh_world}
use Rattle.nv_core.specs.Contents.{plain_entries}
use Rattle.nv_world.specs.Worlds.{model_of}
use Rattle.nv_gen.specs.Story.{IsLightEntry, script_of}
use Rattle.nv_replay.specs.Entering.{entered}
use Rattle.nv_replay.proofs.generating.history_of_script.Given as goal

abbrev pub invariant-loop-entry : goal.invariant-loop-entry
invariant-loop-entry l = record {
  next : (goal.iterator-loop-entry).can_next l.entry-iterator;
  finite : (goal.iterator-loop-entry).is_finite l.entry-iterator;
  capacity : l.world.capacity ≡ l.outbox;
  limits : l.world.limits ≡ l.fn.limits;
  light : AllByRecursion IsLightEntry (plain_entries (into_iter_items l.entry-iterator));
  made : (w : World) × (model_of l.world ≡ Some w)
      × (plain_entries l.world.history ++ entered w (plain_entries (into_iter_items l.entry-iterator)) ≡ entered (fresh_world l.outbox l.fn.limits) (script_of l.number));
}
