-- The rectangle of a window is looked for child by child.
use Rattle.std.proofs.Common.{◌≡◌, ◌-◌, ◌∙◌, ap, sym, subst, arith, w64}
use Rattle.std.proofs.lemmas.Int.{to_z-of_z}
use mir.Val.{to_z, of_z}
use Rattle.nv_layout.specs.Division.{counted_children}
use Rattle.nv_layout.specs.Content.{group, shape_of, shapes_of}
use Rattle.nv_layout.specs.Least.{child_list}
use Rattle.nv_layout.specs.Places.{extent, part, rects, rect_among, IsRoomy, IsOnScreen}
use Rattle.nv_layout.specs.Sizing.{rooms_of, next_size}
use Rattle.nv_layout.proofs.PlacingSteps.{room_enough, extent_small}
use Rattle.nv_layout.proofs.FindingSteps.{finding_start, next_found, found_here, finding_step, finding_end, none_is, some_is}
use Rattle.nv_layout.proofs.Smaller.{no_larger}
use Rattle.nv_layout.proofs.places.+rect.Goals as goal

pub rect_in_group-gaps-requires : goal.rect_in_group-gaps-requires
rect_in_group-gaps-requires t c = omega (arith, room_enough c.args.axis (shapes_of c.args.trees.now) c.args.area c.requires.roomy, extent_small c.args.axis c.args.area c.requires.on_screen)

pub rect_in_group-overflow_sub-room : goal.rect_in_group-overflow_sub-room
rect_in_group-overflow_sub-room t c = omega (arith, room_enough c.args.axis (shapes_of c.args.trees.now) c.args.area c.requires.roomy, c.gaps.ensures, c.extent.ensures)

pub rect_in_group-new-rooms-requires-clause-enough : goal.rect_in_group-new-rooms-requires-clause-enough
rect_in_group-new-rooms-requires-clause-enough t c = omega (arith, room_enough c.args.axis (shapes_of c.args.trees.now) c.args.area c.requires.roomy, c.gaps.ensures, c.extent.ensures)

pub rect_in_group-new-rooms-requires-clause-known : goal.rect_in_group-new-rooms-requires-clause-known
rect_in_group-new-rooms-requires-clause-known t c = λ i h. absurd (omega arith)

pub rect_in_group-loop-place-init : goal.rect_in_group-loop-place-init
rect_in_group-loop-place-init t c =
    finding_start c.args.axis c.args.trees.now c.all_wish-all_wish.result c.new-rooms.result (to_z w64 (of_z w64 c.args.window)) c.args.area
    c.requires.filled c.requires.roomy c.requires.on_screen c.all_wish-all_wish.ensures
    (c.new-rooms.ensures
    ∙ ap (λ n. rooms_of (n - c.gaps.result) (counted_children (child_list c.args.axis (shapes_of c.args.trees.now)))) c.extent.ensures
    ∙ ap (λ n. rooms_of (extent c.args.axis c.args.area - n) (counted_children (child_list c.args.axis (shapes_of c.args.trees.now)))) c.gaps.ensures)

pub rect_in_group-take-size-requires : goal.rect_in_group-take-size-requires
rect_in_group-take-size-requires t c = (next_found c.args.axis c.args.trees.now c.all_wish-all_wish.result c.loop-place.place c.index-trees-place.result c.loop-place-test.true c.index-trees-place.is c.least_along.result c.counted_wish-wish.result c.least_along.ensures c.counted_wish-wish.ensures c.loop-place.rooms c.loop-place.rest (to_z w64 (of_z w64 c.args.window)) c.args.area c.loop-place.invariant).taken

pub rect_in_group-rect_of-found-requires : goal.rect_in_group-rect_of-found-requires
rect_in_group-rect_of-found-requires t c =
    let next = next_found c.args.axis c.args.trees.now c.all_wish-all_wish.result c.loop-place.place c.index-trees-place.result c.loop-place-test.true c.index-trees-place.is c.least_along.result c.counted_wish-wish.result c.least_along.ensures c.counted_wish-wish.ensures c.loop-place.rooms c.loop-place.rest (to_z w64 (of_z w64 c.args.window)) c.args.area c.loop-place.invariant in
    let area : c.part.result ≡ part c.args.axis (next_size c.loop-place.rooms (record { least = c.least_along.result; wish = c.counted_wish-wish.result })) c.loop-place.rest = c.part.ensures ∙ ap (λ n. part c.args.axis n c.loop-place.rest) c.take-size.ensures.size in
    (omega (arith, no_larger c.args.trees.now c.loop-place.place c.index-trees-place.result c.loop-place-test.true c.index-trees-place.is), (next.filled, (subst (IsRoomy (shape_of c.index-trees-place.result)) (sym area) next.roomy, subst IsOnScreen (sym area) next.on_screen)))

pub rect_in_group-returns-then-is_some : goal.rect_in_group-returns-then-is_some
rect_in_group-returns-then-is_some t c =
    some_is c.rect_of-found.result (rect_among c.args.window (rects (group c.args.axis (shapes_of c.args.trees.now)) c.args.area)) (sym c.is_some.ensures ∙ c.if-is_some.true)
    (λ q e.
    found_here c.args.axis c.args.trees.now c.all_wish-all_wish.result c.loop-place.place c.index-trees-place.result c.loop-place-test.true c.index-trees-place.is c.least_along.result c.counted_wish-wish.result c.least_along.ensures c.counted_wish-wish.ensures c.loop-place.rooms c.loop-place.rest (to_z w64 (of_z w64 c.args.window)) c.args.area c.loop-place.invariant
    c.take-size.result c.part.result c.take-size.ensures.size c.part.ensures q c.rect_of-found.result c.rect_of-found.ensures e
    ∙ ap (λ w. rect_among w (rects (group c.args.axis (shapes_of c.args.trees.now)) c.args.area)) (to_z-of_z w64 c.args.window c.ranges.window))

pub rect_in_group-overflow_add-size : goal.rect_in_group-overflow_add-size
rect_in_group-overflow_add-size t c =
    let next = next_found c.args.axis c.args.trees.now c.all_wish-all_wish.result c.loop-place.place c.index-trees-place.result c.loop-place-test.true c.index-trees-place.is c.least_along.result c.counted_wish-wish.result c.least_along.ensures c.counted_wish-wish.ensures c.loop-place.rooms c.loop-place.rest (to_z w64 (of_z w64 c.args.window)) c.args.area c.loop-place.invariant in
    omega (arith, next.within_rest, c.take-size.ensures.size, c.gap_behind.ensures, extent_small c.args.axis c.loop-place.rest c.loop-place.invariant.ahead.on_screen)

pub rect_in_group-beyond-rest-requires-clause-within : goal.rect_in_group-beyond-rest-requires-clause-within
rect_in_group-beyond-rest-requires-clause-within t c =
    let next = next_found c.args.axis c.args.trees.now c.all_wish-all_wish.result c.loop-place.place c.index-trees-place.result c.loop-place-test.true c.index-trees-place.is c.least_along.result c.counted_wish-wish.result c.least_along.ensures c.counted_wish-wish.ensures c.loop-place.rooms c.loop-place.rest (to_z w64 (of_z w64 c.args.window)) c.args.area c.loop-place.invariant in
    omega (arith, next.within_rest, c.take-size.ensures.size, c.gap_behind.ensures)

pub rect_in_group-loop-place-preserved : goal.rect_in_group-loop-place-preserved
rect_in_group-loop-place-preserved t c =
    finding_step c.args.axis c.args.trees.now c.all_wish-all_wish.result c.loop-place.place c.index-trees-place.result c.loop-place-test.true c.index-trees-place.is c.least_along.result c.counted_wish-wish.result c.least_along.ensures c.counted_wish-wish.ensures c.loop-place.rooms c.loop-place.rest (to_z w64 (of_z w64 c.args.window)) c.args.area c.loop-place.invariant
    c.take-size.result c.part.result c.take-size.ensures.size c.part.ensures c.gap_behind.result c.take-size.new.self c.beyond-rest.result c.rect_of-found.result
    c.take-size.ensures.after c.gap_behind.ensures c.beyond-rest.ensures c.rect_of-found.ensures (none_is c.rect_of-found.result (sym c.is_some.ensures ∙ c.if-is_some.false))

pub rect_in_group-returns : goal.rect_in_group-returns
rect_in_group-returns t c =
    finding_end c.args.axis c.args.trees.now c.all_wish-all_wish.result c.loop-place.place c.loop-place.rooms c.loop-place.rest (to_z w64 (of_z w64 c.args.window)) c.args.area c.loop-place-test.false c.loop-place.invariant
    ∙ ap (λ w. rect_among w (rects (group c.args.axis (shapes_of c.args.trees.now)) c.args.area)) (to_z-of_z w64 c.args.window c.ranges.window)
