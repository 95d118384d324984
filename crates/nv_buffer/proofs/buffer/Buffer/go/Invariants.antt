use Rattle.nv_buffer.specs.Changes.{leg_edits}
use Rattle.nv_buffer.proofs.Going.{Going}
use Rattle.nv_buffer.proofs.buffer.Buffer.go.Given as goal

abbrev pub invariant-loop-place : goal.invariant-loop-place
invariant-loop-place l =
    Going l.initial.self l.initial.events.items (leg_edits l.initial.self.undo l.leg) l.self l.events.items l.place
