-- The splices that an entry of a world makes in its buffers.
use Rattle.std.specs.Prelude.{◌≡◌, ℤ, ◌-◌, List, [], ◌∷◌, ◌++◌, length, flat_map, Some, ℕ}
use Rattle.nv_model.specs.Buffers.{Splice}
use Rattle.nv_model.specs.Operations.{Operation, spliced, spliced_back}
use Rattle.nv_model.specs.declared.parts.Limits.{Limits}
use Rattle.nv_history.specs.Events.{Event}
use Rattle.nv_history.specs.Worlds.{World as ModelWorld}
use Rattle.nv_history.specs.Runs.{run}
use Rattle.nv_history.specs.MarkPlaces.{operations_of}
use Rattle.nv_core.specs.Contents.{plain_entries, plain_event}
use Rattle.nv_core.specs.declared.entry.Entry.{Entry}
use Rattle.nv_world.specs.declared.step.Moved.{Moved}

-- a splice in the buffer of a handle: where it begins in the flat text, how many bytes it takes out
-- and puts there, and which part of which change it is
abbrev pub splice_in : ℤ → Splice → Moved
splice_in n s = record {
  buffer = n;
  at = s.from;
  old = s.until - s.from;
  new = length s.bytes;
  change = s.part.change;
  part = s.part.part;
  back = s.part.back;
}

-- the splice that an operation makes, where it makes one
abbrev pub splice_by : Operation → List Moved
splice_by (spliced n s) = splice_in n s ∷ []
splice_by (spliced_back n s) = splice_in n s ∷ []
splice_by _ = []

-- the splices of operations, in their order
abbrev pub splices_by : List Operation → List Moved
splices_by operations = flat_map splice_by operations

-- the splices that an event makes where it enters a world
abbrev pub splices_of_event : ModelWorld → Event → List Moved
splices_of_event w event = splices_by (operations_of w event)

-- these are the splices of the last entry of a history, and none where it has no entry
pub record AreLastSplices (capacity : ℕ) (limits : Limits) (history : List Entry)
    (splices : List Moved) : Type 0 where
  pub none : history ≡ [] → splices ≡ []
  pub last : (before : List Entry) (entry : Entry) (w : ModelWorld)
      → history ≡ before ++ entry ∷ [] → run capacity limits (plain_entries before) ≡ Some w
      → splices ≡ splices_of_event w (plain_event entry.event)
