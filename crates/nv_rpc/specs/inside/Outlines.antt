-- inside: what a message is beside the values that it holds.
use Rattle.std.specs.Prelude.{ℕ, zero, suc, Option, Some, None}
use Rattle.nv_value.specs.Content.{Tree, Trees, no_more, one, list}
use Rattle.nv_rpc.specs.Steps.{◌>>=◌}
use Rattle.nv_rpc.specs.Messages.{Sent, reply, lines_event, tick_event, detach_event, fault_event}
use Rattle.nv_rpc.specs.declared.receiving.Outline.{Outline}
use Rattle.nv_rpc.specs.declared.receiving.Outline.TheVariants.{Success, Failure, Lines, Tick, Detach, Fault}

-- The outline of a message.
abbrev pub outline_of : Sent → Outline
outline_of (reply msgid None result) = Success msgid
outline_of (reply msgid (Some fault) result) = Failure msgid fault.kind
outline_of (lines_event buffer tick first last lines) = Lines buffer tick first last
outline_of (tick_event buffer tick) = Tick buffer tick
outline_of (detach_event buffer) = Detach buffer
outline_of (fault_event fault) = Fault fault.kind

-- The value at a place, counted from 0, among values.
abbrev pub tree_at : Trees → ℕ → Option Tree
tree_at no_more n = None
tree_at (one t ts) zero = Some t
tree_at (one t ts) (suc n) = tree_at ts n

-- The item at a place, counted from 0, of a list.
abbrev pub item_at : Tree → ℕ → Option Tree
item_at (list ts) n = tree_at ts n
item_at _ n = None

-- The item at a place, counted from 0, of the third item of a list.
abbrev pub argument_at : Tree → ℕ → Option Tree
argument_at t n = do
  third ← item_at t 2
  item_at third n
