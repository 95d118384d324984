use Rattle.std.proofs.Common.{◌≡◌, ◌++◌, [], ◌∷◌, true, false, sym, subst, ◌∙◌, ap, w64, arith}
use Rattle.std.proofs.lemmas.Int.{to_z-of_z}
use mir.Val.{to_z, of_z}
use Rattle.nv_layout.specs.Content.{shapes_of}
use Rattle.nv_layout.specs.Changes.{holds_among}
use Rattle.nv_layout.specs.inside.Paths.{path_among}
use Rattle.nv_layout.proofs.Leading.{path_found, path_nowhere, cut_back, held_among}
use Rattle.nv_layout.proofs.Rebuilt.{none_before, none_in_all}
use Rattle.nv_layout.proofs.changes.+path.Goals as goal

pub push_path_among-loop-place-preserved : goal.push_path_among-loop-place-preserved
push_path_among-loop-place-preserved t c = (
  cut_back c.args.into.now.items c.push.new.self.items c.push_path.new.into.items c.truncate.new.self.items _ c.len-start.result c.loop-place.place
      (omega arith) (c.in_ok-push.ensures.items ∙ ap (λ l. l ++ c.loop-place.place ∷ []) c.loop-place.invariant.0) c.in_ok-found.ensures.path c.truncate.ensures.items,
  none_before _ c.args.trees.now c.loop-place.place c.index-trees-place.result c.loop-place-test.true c.index-trees-place.is c.loop-place.invariant.1 (sym c.in_ok-found.ensures.found ∙ c.if-found.false),
)

pub push_path_among-returns-then-found-clause-found : goal.push_path_among-returns-then-found-clause-found
push_path_among-returns-then-found-clause-found t c =
    sym (subst (λ w. holds_among w (shapes_of c.args.trees.now) ≡ true) (to_z-of_z w64 c.args.window c.ranges.window)
    (held_among (to_z w64 (of_z w64 c.args.window)) c.args.trees.now c.loop-place.place c.index-trees-place.result c.loop-place-test.true c.index-trees-place.is (sym c.in_ok-found.ensures.found ∙ c.if-found.true)))

pub push_path_among-returns-then-found-clause-path : goal.push_path_among-returns-then-found-clause-path
push_path_among-returns-then-found-clause-path t c =
    subst (λ w. c.push_path.new.into.items ≡ c.args.into.now.items ++ path_among w 0 (shapes_of c.args.trees.now)) (to_z-of_z w64 c.args.window c.ranges.window)
    (path_found (to_z w64 (of_z w64 c.args.window)) c.args.trees.now c.loop-place.place c.index-trees-place.result c.args.into.now.items c.push.new.self.items c.push_path.new.into.items
    c.loop-place-test.true c.index-trees-place.is c.loop-place.invariant.1 (sym c.in_ok-found.ensures.found ∙ c.if-found.true)
    (c.in_ok-push.ensures.items ∙ ap (λ l. l ++ c.loop-place.place ∷ []) c.loop-place.invariant.0) c.in_ok-found.ensures.path)

pub push_path_among-returns-clause-found : goal.push_path_among-returns-clause-found
push_path_among-returns-clause-found t c =
    sym (subst (λ w. holds_among w (shapes_of c.args.trees.now) ≡ false) (to_z-of_z w64 c.args.window c.ranges.window)
    (none_in_all _ c.args.trees.now c.loop-place.place c.loop-place-test.false c.loop-place.invariant.1))

pub push_path_among-returns-clause-path : goal.push_path_among-returns-clause-path
push_path_among-returns-clause-path t c =
    subst (λ w. c.loop-place.into.items ≡ c.args.into.now.items ++ path_among w 0 (shapes_of c.args.trees.now)) (to_z-of_z w64 c.args.window c.ranges.window)
    (path_nowhere _ c.args.trees.now c.args.into.now.items c.loop-place.into.items (none_in_all _ c.args.trees.now c.loop-place.place c.loop-place-test.false c.loop-place.invariant.1) c.loop-place.invariant.0)
