use Rattle.std.proofs.Common.{◌≡◌, ◌<◌, ◌≤◌, ℕ, ◌+◌, List, sym, ◌∙◌, arith}
use Rattle.nv_layout.specs.Content.{shapes_of}
use Rattle.nv_layout.specs.Division.{Child, counted_children_where}
use Rattle.nv_layout.specs.Least.{child_list}
use Rattle.nv_layout.proofs.Children.{child_within, least_of_child, least_there, least_within, need-counted_children_where, length-counted_children, length-shapes_of}
use Rattle.nv_layout.proofs.SoFar.{SoFar, so_far_start, so_far_modest, so_far_wish, so_far_most, so_far_end}
use Rattle.nv_layout.proofs.division.needs.Goals as goal
use Rattle.nv_layout.proofs.division.needs.Goals.{After-counted_wish, then-counted_wish-eq0, else-counted_wish-eq0}

pub loop-place-init : goal.loop-place-init
loop-place-init c = so_far_start (counted_children_where c.args.all_wish (child_list c.args.axis (shapes_of c.args.trees.now)))

pub least_at-least-requires-clause-small : goal.least_at-least-requires-clause-small
least_at-least-requires-clause-small c = omega (arith, c.requires.enough, least_within c.args.axis c.args.trees.now c.args.all_wish c.loop-place.place c.index-trees-place.result c.loop-place-test.true c.index-trees-place.is)

pub least_at-least-requires-clause-known : goal.least_at-least-requires-clause-known
least_at-least-requires-clause-known c =
    λ h. c.requires.known c.loop-place.place h ∙ least_there c.args.axis c.args.trees.now c.loop-place.place c.index-trees-place.result c.loop-place-test.true c.index-trees-place.is

-- the children as they count
abbrev cs : After-counted_wish → List Child
cs c = counted_children_where c.args.all_wish (child_list c.args.axis (shapes_of c.args.trees.now))

all_need : (c : After-counted_wish) (i wished shared sharers : ℕ) → SoFar (cs c) i wished shared sharers → wished + shared ≤ c.args.room
all_need c i wished shared sharers s =
    omega (arith, c.requires.enough, so_far_most (cs c) i wished shared sharers s, need-counted_children_where c.args.all_wish (child_list c.args.axis (shapes_of c.args.trees.now)))

modest : (c : After-counted_wish) → c.counted_wish.result ≡ 0 → SoFar (cs c) (c.loop-place.place + 1) c.loop-place.wish_need (c.loop-place.share_need + c.least_at-least.result) (c.loop-place.sharers + 1)
modest c e =
    so_far_modest (cs c) c.loop-place.place c.loop-place.wish_need c.loop-place.share_need c.loop-place.sharers c.least_at-least.result
    (child_within c.args.axis c.args.trees.now c.args.all_wish c.loop-place.place c.index-trees-place.result c.loop-place-test.true c.index-trees-place.is)
    (c.least_at-least.ensures ∙ least_of_child c.args.axis c.args.trees.now c.args.all_wish c.loop-place.place c.index-trees-place.result c.loop-place-test.true c.index-trees-place.is)
    (sym c.counted_wish.ensures ∙ e) c.loop-place.invariant

wishing : (c : After-counted_wish) → 0 < c.counted_wish.result → SoFar (cs c) (c.loop-place.place + 1) (c.loop-place.wish_need + c.least_at-least.result) c.loop-place.share_need c.loop-place.sharers
wishing c k =
    so_far_wish (cs c) c.loop-place.place c.loop-place.wish_need c.loop-place.share_need c.loop-place.sharers c.least_at-least.result
    (child_within c.args.axis c.args.trees.now c.args.all_wish c.loop-place.place c.index-trees-place.result c.loop-place-test.true c.index-trees-place.is)
    (c.least_at-least.ensures ∙ least_of_child c.args.axis c.args.trees.now c.args.all_wish c.loop-place.place c.index-trees-place.result c.loop-place-test.true c.index-trees-place.is)
    (omega (arith, c.counted_wish.ensures)) c.loop-place.invariant

pub overflow_add-share_need : goal.overflow_add-share_need
overflow_add-share_need c =
    let d = (goal.at.overflow_add-share_need c).After-counted_wish in
    omega (arith, all_need d _ _ _ _ (modest d c.if-counted_wish-eq0.true))

pub overflow_add-sharers : goal.overflow_add-sharers
overflow_add-sharers c =
    let d = (goal.at.overflow_add-sharers c).After-counted_wish in
    omega (arith, so_far_most (cs d) _ _ _ _ (modest d c.if-counted_wish-eq0.true), length-counted_children c.args.all_wish (child_list c.args.axis (shapes_of c.args.trees.now)), length-shapes_of c.args.axis c.args.trees.now)

pub overflow_add-wish_need : goal.overflow_add-wish_need
overflow_add-wish_need c =
    let d = (goal.at.overflow_add-wish_need c).After-counted_wish in
    omega (arith, all_need d _ _ _ _ (wishing d (omega arith)))

pub loop-place-preserved : goal.loop-place-preserved
loop-place-preserved c =
    let d = (goal.at.loop-place-preserved c).After-counted_wish in
    elim c.if-counted_wish-eq0.branch [
      | then-counted_wish-eq0 w ↦ rw (w.wish_need-is, w.share_need-is, w.sharers-is) (modest d w.if-counted_wish-eq0.true)
      | else-counted_wish-eq0 w ↦ rw (w.wish_need-is, w.share_need-is, w.sharers-is) (wishing d (omega arith))
    ]

pub returns : goal.returns
returns c =
    let all = counted_children_where c.args.all_wish (child_list c.args.axis (shapes_of c.args.trees.now)) in
    let sums = so_far_end all c.loop-place.place c.loop-place.wish_need c.loop-place.share_need c.loop-place.sharers
    (omega (arith, length-counted_children c.args.all_wish (child_list c.args.axis (shapes_of c.args.trees.now)), length-shapes_of c.args.axis c.args.trees.now)) c.loop-place.invariant in
    cc (sums.0, sums.1, sums.2)
