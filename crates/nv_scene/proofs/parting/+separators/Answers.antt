-- Child by child.
use Rattle.std.proofs.Common.{◌+◌, ◌++◌, ◌∙◌, List, ap, drop, subst, sym, arith}
use Rattle.nv_layout.specs.Content.{shape_of, shapes_of}
use Rattle.nv_layout.specs.declared.nodes.Rect.{Rect}
use Rattle.nv_layout.proofs.Smaller.{no_larger}
use Rattle.nv_scene.specs.inside.Parting.{HasSpan, separator_between}
use Rattle.nv_scene.proofs.Parted.{child_cut, child_next, child_of_trees, has_span, parting_end, parting_start}
use Rattle.nv_scene.proofs.parting.+separators.Goals as goal

pub push_in_group-loop-place-init : goal.push_in_group-loop-place-init
push_in_group-loop-place-init t c = parting_start c.args.axis (shapes_of c.args.trees.now) c.args.placed.now c.args.into.now.items c.requires

pub push_in_group-push_separators-requires : goal.push_in_group-push_separators-requires
push_in_group-push_separators-requires t c =
    let child =
    child_of_trees c.args.axis c.args.trees.now c.loop-place.place c.index-trees-place.result c.loop-place.left.now _ c.loop-place.into.items _ c.loop-place-test.true
    c.index-trees-place.is c.loop-place.invariant in
    (omega (arith, no_larger c.args.trees.now c.loop-place.place c.index-trees-place.result c.loop-place-test.true c.index-trees-place.is), child.windows)

pub push_in_group-push_separator-requires-clause-span : goal.push_in_group-push_separator-requires-clause-span
push_in_group-push_separator-requires-clause-span t c =
    let child =
    child_of_trees c.args.axis c.args.trees.now c.loop-place.place c.index-trees-place.result c.loop-place.left.now _ c.loop-place.into.items _ c.loop-place-test.true
    c.index-trees-place.is c.loop-place.invariant in
    let here =
    child_cut (shape_of c.index-trees-place.result) c.loop-place.left.now c.in_ok-others.others.now c.split_at.result.0.now child.windows c.in_ok-others.ensures.left c.split_at.ensures.front in
    subst HasSpan (sym here) (has_span (shape_of c.index-trees-place.result) _ child.windows)

pub push_in_group-loop-place-preserved : goal.push_in_group-loop-place-preserved
push_in_group-loop-place-preserved t c =
    let child =
    child_of_trees c.args.axis c.args.trees.now c.loop-place.place c.index-trees-place.result c.loop-place.left.now _ c.loop-place.into.items _ c.loop-place-test.true
    c.index-trees-place.is c.loop-place.invariant in
    let here =
    child_cut (shape_of c.index-trees-place.result) c.loop-place.left.now c.in_ok-others.others.now c.split_at.result.0.now child.windows c.in_ok-others.ensures.left c.split_at.ensures.front in
    child_next c.args.axis (shape_of c.index-trees-place.result) (shapes_of (drop (c.loop-place.place + 1) c.args.trees.now)) c.loop-place.left.now c.in_ok-others.others.now
    c.split_at.result.0.now _ c.loop-place.into.items c.push_separator.new.into.items _ child c.in_ok-others.ensures.left here
    (c.in_ok-push_separator.ensures
    ∙ ap (λ (rs : List Rect). rs ++ separator_between c.args.axis c.split_at.result.0.now (shapes_of (drop (c.loop-place.place + 1) c.args.trees.now))) c.in_ok-others.ensures.found)

pub push_in_group-returns : goal.push_in_group-returns
push_in_group-returns t c =
    let all = parting_end c.args.axis c.args.trees.now c.loop-place.place c.loop-place.left.now _ c.loop-place.into.items _ (omega (arith, c.loop-place-test.false)) c.loop-place.invariant in
    record { left = all.0; found = all.1 }
