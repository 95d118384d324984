-- A group's children are placed one after another.
use Rattle.std.proofs.Common.{◌≡◌, ℕ, ◌-◌, ap, refl, sym, ◌∙◌, subst, arith}
use Rattle.nv_layout.specs.Division.{counted_children}
use Rattle.nv_layout.specs.Content.{shape_of, shapes_of}
use Rattle.nv_layout.specs.Least.{child_list, least}
use Rattle.nv_layout.specs.Places.{extent, part, IsRoomy, IsOnScreen}
use Rattle.nv_layout.specs.Sizing.{rooms_of, next_size}
use Rattle.nv_layout.proofs.Smaller.{no_larger}
use Rattle.nv_layout.proofs.PlacingSteps.{room_enough, known_enough, front_is, front_leasts, placing_start, next_child, led_here, placing_step, placing_end, extent_small, next_least}
use Rattle.nv_layout.proofs.Children.{least_there}
use Rattle.nv_layout.proofs.placing.+place.Goals as goal

pub place_group-gaps-requires : goal.place_group-gaps-requires
place_group-gaps-requires t c = omega (arith, room_enough c.args.axis (shapes_of c.args.trees.now) c.args.area c.requires.roomy, extent_small c.args.axis c.args.area c.requires.on_screen)

pub place_group-overflow_sub-room : goal.place_group-overflow_sub-room
place_group-overflow_sub-room t c = omega (arith, room_enough c.args.axis (shapes_of c.args.trees.now) c.args.area c.requires.roomy, c.gaps.ensures, c.extent.ensures)

pub place_group-new-rooms-requires-clause-enough : goal.place_group-new-rooms-requires-clause-enough
place_group-new-rooms-requires-clause-enough t c = omega (arith, room_enough c.args.axis (shapes_of c.args.trees.now) c.args.area c.requires.roomy, c.gaps.ensures, c.extent.ensures)

pub place_group-split_at-requires : goal.place_group-split_at-requires
place_group-split_at-requires t c = known_enough c.args.axis c.args.trees.now c.args.known.now c.requires.known

pub place_group-new-rooms-requires-clause-known : goal.place_group-new-rooms-requires-clause-known
place_group-new-rooms-requires-clause-known t c = front_leasts c.args.axis c.args.trees.now c.split_at.result.0.now (c.split_at.ensures.front ∙ front_is c.args.axis c.args.trees.now c.args.known.now c.requires.known)

pub place_group-loop-place-init : goal.place_group-loop-place-init
place_group-loop-place-init t c =
    placing_start c.args.axis c.args.trees.now c.all_wish-all_wish.result c.new-rooms.result c.args.area c.split_at.result.1.now c.args.known.now c.args.into.now.items
    c.requires.filled c.requires.roomy c.requires.on_screen c.all_wish-all_wish.ensures
    (c.new-rooms.ensures
    ∙ ap (λ n. rooms_of (n - c.gaps.result) (counted_children (child_list c.args.axis (shapes_of c.args.trees.now)))) c.extent.ensures
    ∙ ap (λ n. rooms_of (extent c.args.axis c.args.area - n) (counted_children (child_list c.args.axis (shapes_of c.args.trees.now)))) c.gaps.ensures)
    c.requires.known c.split_at.ensures.back

pub place_group-least_at-least-requires-clause-small : goal.place_group-least_at-least-requires-clause-small
place_group-least_at-least-requires-clause-small t c =
    let low : ℕ = least c.args.axis (shape_of c.index-trees-place.result) in
    let next = next_child c.args.axis c.args.trees.now c.all_wish-all_wish.result c.loop-place.place c.index-trees-place.result c.loop-place-test.true c.index-trees-place.is low c.counted_wish-wish.result refl c.counted_wish-wish.ensures c.loop-place.rooms c.loop-place.rest c.loop-place.left.now c.args.known.now c.loop-place.into.items c.args.into.now.items c.args.area c.loop-place.invariant in
    omega (arith, next_least c.args.axis (shape_of c.index-trees-place.result) _ _ _ c.loop-place.rooms c.loop-place.rest next, next.within_rest, extent_small c.args.axis c.loop-place.rest c.loop-place.invariant.ahead.on_screen)

pub place_group-least_at-least-requires-clause-known : goal.place_group-least_at-least-requires-clause-known
place_group-least_at-least-requires-clause-known t c =
    λ h. front_leasts c.args.axis c.args.trees.now c.split_at.result.0.now (c.split_at.ensures.front ∙ front_is c.args.axis c.args.trees.now c.args.known.now c.requires.known) c.loop-place.place h
    ∙ least_there c.args.axis c.args.trees.now c.loop-place.place c.index-trees-place.result c.loop-place-test.true c.index-trees-place.is

pub place_group-take-size-requires : goal.place_group-take-size-requires
place_group-take-size-requires t c = (next_child c.args.axis c.args.trees.now c.all_wish-all_wish.result c.loop-place.place c.index-trees-place.result c.loop-place-test.true c.index-trees-place.is c.least_at-least.result c.counted_wish-wish.result c.least_at-least.ensures c.counted_wish-wish.ensures c.loop-place.rooms c.loop-place.rest c.loop-place.left.now c.args.known.now c.loop-place.into.items c.args.into.now.items c.args.area c.loop-place.invariant).taken

pub place_group-place_tree-requires : goal.place_group-place_tree-requires
place_group-place_tree-requires t c =
    let next = next_child c.args.axis c.args.trees.now c.all_wish-all_wish.result c.loop-place.place c.index-trees-place.result c.loop-place-test.true c.index-trees-place.is c.least_at-least.result c.counted_wish-wish.result c.least_at-least.ensures c.counted_wish-wish.ensures c.loop-place.rooms c.loop-place.rest c.loop-place.left.now c.args.known.now c.loop-place.into.items c.args.into.now.items c.args.area c.loop-place.invariant in
    let area : c.part.result ≡ part c.args.axis (next_size c.loop-place.rooms (record { least = c.least_at-least.result; wish = c.counted_wish-wish.result })) c.loop-place.rest = c.part.ensures ∙ ap (λ n. part c.args.axis n c.loop-place.rest) c.take-size.ensures.size in (
      omega (arith, no_larger c.args.trees.now c.loop-place.place c.index-trees-place.result c.loop-place-test.true c.index-trees-place.is),
      (
        next.filled,
        (
          subst (IsRoomy (shape_of c.index-trees-place.result)) (sym area) next.roomy,
          (
            subst IsOnScreen (sym area) next.on_screen,
            led_here c.args.axis c.args.trees.now c.all_wish-all_wish.result c.loop-place.place c.index-trees-place.result c.loop-place-test.true c.index-trees-place.is c.least_at-least.result c.counted_wish-wish.result c.least_at-least.ensures c.counted_wish-wish.ensures c.loop-place.rooms c.loop-place.rest c.loop-place.left.now c.args.known.now c.loop-place.into.items c.args.into.now.items c.args.area c.loop-place.invariant,
          ),
        ),
      ),
    )

pub place_group-overflow_add-size : goal.place_group-overflow_add-size
place_group-overflow_add-size t c =
    omega (arith, (next_child c.args.axis c.args.trees.now c.all_wish-all_wish.result c.loop-place.place c.index-trees-place.result c.loop-place-test.true c.index-trees-place.is c.least_at-least.result c.counted_wish-wish.result c.least_at-least.ensures c.counted_wish-wish.ensures c.loop-place.rooms c.loop-place.rest c.loop-place.left.now c.args.known.now c.loop-place.into.items c.args.into.now.items c.args.area c.loop-place.invariant).within_rest, c.take-size.ensures.size, c.gap_behind.ensures, extent_small c.args.axis c.loop-place.rest c.loop-place.invariant.ahead.on_screen)

pub place_group-beyond-rest-requires-clause-within : goal.place_group-beyond-rest-requires-clause-within
place_group-beyond-rest-requires-clause-within t c = omega (arith, (next_child c.args.axis c.args.trees.now c.all_wish-all_wish.result c.loop-place.place c.index-trees-place.result c.loop-place-test.true c.index-trees-place.is c.least_at-least.result c.counted_wish-wish.result c.least_at-least.ensures c.counted_wish-wish.ensures c.loop-place.rooms c.loop-place.rest c.loop-place.left.now c.args.known.now c.loop-place.into.items c.args.into.now.items c.args.area c.loop-place.invariant).within_rest, c.take-size.ensures.size, c.gap_behind.ensures)

pub place_group-loop-place-preserved : goal.place_group-loop-place-preserved
place_group-loop-place-preserved t c =
    placing_step c.args.axis c.args.trees.now c.all_wish-all_wish.result c.loop-place.place c.index-trees-place.result c.loop-place-test.true c.index-trees-place.is c.least_at-least.result c.counted_wish-wish.result c.least_at-least.ensures c.counted_wish-wish.ensures c.loop-place.rooms c.loop-place.rest c.loop-place.left.now c.args.known.now c.loop-place.into.items c.args.into.now.items c.args.area c.loop-place.invariant
    c.take-size.result c.gap_behind.result c.take-size.new.self c.part.result c.beyond-rest.result c.in_ok-left.left.now c.place_tree.new.into.items
    c.take-size.ensures.size c.take-size.ensures.after c.part.ensures c.gap_behind.ensures c.beyond-rest.ensures c.in_ok-left.ensures.left c.in_ok-left.ensures.placed

pub place_group-returns : goal.place_group-returns
place_group-returns t c =
    let all = placing_end c.args.axis c.args.trees.now c.all_wish-all_wish.result c.loop-place.place c.loop-place.rooms c.loop-place.rest c.loop-place.left.now c.args.known.now c.loop-place.into.items c.args.into.now.items c.args.area
    c.loop-place-test.false c.loop-place.invariant in
    record { left = all.0; placed = all.1 }
