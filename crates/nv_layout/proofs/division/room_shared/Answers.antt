use Rattle.std.proofs.Common.{◌≤◌, ap, sym, ◌∙◌, arith}
use Rattle.nv_layout.specs.Content.{shapes_of}
use Rattle.nv_layout.specs.Division.{counted_children_where}
use Rattle.nv_layout.specs.Least.{child_list}
use Rattle.nv_layout.proofs.Children.{child_within, least_of_child, least_there, least_within, needs_in_all, length-counted_children, length-shapes_of}
use Rattle.nv_layout.proofs.Granting.{granting_start, granting_skip, need_granted, granting_step, granting_end}
use Rattle.nv_layout.proofs.division.room_shared.Goals as goal
use Rattle.nv_layout.proofs.division.room_shared.Goals.{then-wish-ne0, else-wish-ne0}

pub overflow_add-need : goal.overflow_add-need
overflow_add-need c =
    omega (arith, needs_in_all c.args.all_wish (child_list c.args.axis (shapes_of c.args.trees.now)), ap (λ r. r.wish_need) c.requires.start, ap (λ r. r.other_need) c.requires.start, c.requires.enough)

pub loop-place-init : goal.loop-place-init
loop-place-init c =
    granting_start (counted_children_where c.args.all_wish (child_list c.args.axis (shapes_of c.args.trees.now))) c.args.rooms.now.wish_room c.args.rooms.now.other_need c.args.rooms.now.wish_need
    (ap (λ r. r.other_need) c.requires.start) (ap (λ r. r.wish_need) c.requires.start)
    (omega (arith, needs_in_all c.args.all_wish (child_list c.args.axis (shapes_of c.args.trees.now)), ap (λ r. r.wish_need) c.requires.start, ap (λ r. r.other_need) c.requires.start, c.requires.enough))

pub least_at-least-requires-clause-small : goal.least_at-least-requires-clause-small
least_at-least-requires-clause-small c =
    omega (arith, c.requires.enough, least_within c.args.axis c.args.trees.now c.args.all_wish c.loop-place.place c.index-trees-place.result c.loop-place-test.true c.index-trees-place.is)

pub least_at-least-requires-clause-known : goal.least_at-least-requires-clause-known
least_at-least-requires-clause-known c =
    λ h. c.requires.known c.loop-place.place h ∙ least_there c.args.axis c.args.trees.now c.loop-place.place c.index-trees-place.result c.loop-place-test.true c.index-trees-place.is

pub bounded-room-requires-clause-counted : goal.bounded-room-requires-clause-counted
bounded-room-requires-clause-counted c =
    omega (
      arith,
      need_granted (counted_children_where c.args.all_wish (child_list c.args.axis (shapes_of c.args.trees.now))) c.args.rooms.now.wish_room c.loop-place.place c.loop-place.room c.loop-place.need
          (child_within c.args.axis c.args.trees.now c.args.all_wish c.loop-place.place c.index-trees-place.result c.loop-place-test.true c.index-trees-place.is)
          c.loop-place.invariant c.least_at-least.result
          (c.least_at-least.ensures ∙ least_of_child c.args.axis c.args.trees.now c.args.all_wish c.loop-place.place c.index-trees-place.result c.loop-place-test.true c.index-trees-place.is)
          (omega (arith, c.counted_wish-wish.ensures)),
    )

pub overflow_sub-need : goal.overflow_sub-need
overflow_sub-need c =
    omega (
      arith,
      need_granted (counted_children_where c.args.all_wish (child_list c.args.axis (shapes_of c.args.trees.now))) c.args.rooms.now.wish_room c.loop-place.place c.loop-place.room c.loop-place.need
          (child_within c.args.axis c.args.trees.now c.args.all_wish c.loop-place.place c.index-trees-place.result c.loop-place-test.true c.index-trees-place.is)
          c.loop-place.invariant c.least_at-least.result
          (c.least_at-least.ensures ∙ least_of_child c.args.axis c.args.trees.now c.args.all_wish c.loop-place.place c.index-trees-place.result c.loop-place-test.true c.index-trees-place.is)
          (omega (arith, c.counted_wish-wish.ensures)),
    )

pub overflow_sub-room : goal.overflow_sub-room
overflow_sub-room c =
    let least_counted : c.least_at-least.result ≤ c.loop-place.need =
    omega (
      arith,
      need_granted (counted_children_where c.args.all_wish (child_list c.args.axis (shapes_of c.args.trees.now))) c.args.rooms.now.wish_room c.loop-place.place c.loop-place.room c.loop-place.need
          (child_within c.args.axis c.args.trees.now c.args.all_wish c.loop-place.place c.index-trees-place.result c.loop-place-test.true c.index-trees-place.is)
          c.loop-place.invariant c.least_at-least.result
          (c.least_at-least.ensures ∙ least_of_child c.args.axis c.args.trees.now c.args.all_wish c.loop-place.place c.index-trees-place.result c.loop-place-test.true c.index-trees-place.is)
          (omega (arith, c.counted_wish-wish.ensures)),
    ) in
    omega (arith, c.bounded-room.ensures, c.loop-place.invariant.enough)

pub loop-place-preserved : goal.loop-place-preserved
loop-place-preserved c =
    let all = counted_children_where c.args.all_wish (child_list c.args.axis (shapes_of c.args.trees.now)) in
    let inside = child_within c.args.axis c.args.trees.now c.args.all_wish c.loop-place.place c.index-trees-place.result c.loop-place-test.true c.index-trees-place.is in
    elim c.if-wish-ne0.branch [
      | then-wish-ne0 w ↦
          rw (w.room-is, w.need-is)
          (granting_step all c.args.rooms.now.wish_room c.loop-place.place c.loop-place.room c.loop-place.need inside c.loop-place.invariant
          w.least_at-least.result c.counted_wish-wish.result w.bounded-room.result
          (w.least_at-least.ensures ∙ least_of_child c.args.axis c.args.trees.now c.args.all_wish c.loop-place.place c.index-trees-place.result c.loop-place-test.true c.index-trees-place.is)
          c.counted_wish-wish.ensures (omega arith) w.bounded-room.ensures)
      | else-wish-ne0 w ↦
          rw (w.room-is, w.need-is)
          (granting_skip all c.args.rooms.now.wish_room c.loop-place.place c.loop-place.room c.loop-place.need inside c.loop-place.invariant
          (sym c.counted_wish-wish.ensures ∙ w.if-wish-ne0.false))
    ]

pub returns : goal.returns
returns c =
    granting_end (counted_children_where c.args.all_wish (child_list c.args.axis (shapes_of c.args.trees.now))) c.args.rooms.now.wish_room c.loop-place.place c.loop-place.room c.loop-place.need
    (omega (arith, length-counted_children c.args.all_wish (child_list c.args.axis (shapes_of c.args.trees.now)), length-shapes_of c.args.axis c.args.trees.now)) c.loop-place.invariant
