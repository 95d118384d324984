use Rattle.nv_layout.specs.Content.{shapes_of}
use Rattle.nv_layout.specs.Division.{counted_children_where}
use Rattle.nv_layout.specs.Least.{child_list}
use Rattle.nv_layout.proofs.Granting.{Granting}
use Rattle.nv_layout.proofs.division.room_shared.Given as goal

abbrev pub invariant-loop-place : goal.invariant-loop-place
invariant-loop-place l = Granting (counted_children_where l.all_wish (child_list l.axis (shapes_of l.trees))) l.rooms.wish_room l.place l.room l.need
