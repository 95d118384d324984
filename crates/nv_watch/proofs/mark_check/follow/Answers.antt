use Rattle.std.proofs.Common.{rules, ◌≡◌, ◌<◌, ◌+◌, ◌++◌, ℕ, suc, length, map, take, drop, refl, slice_get, subst, arith, Some}
use Rattle.std.specs.Prelude.{slice_set}
use Rattle.std.proofs.lemmas.Option.{slice_get_read}
use Rattle.nv_watch.specs.FollowedMarks.{followed_after}
use Rattle.nv_watch.proofs.FollowedSteps.{set_mapped}
use Rattle.nv_watch.proofs.mark_check.follow.Goals as goal

pub loop-place-preserved : goal.loop-place-preserved
loop-place-preserved c =
    let f = followed_after c.args.splices.now in
    let i : ℕ = c.loop-place.place in
    let marks = c.args.marks.now.items in
    let now = c.loop-place.marks.items in
    let below : i < length now = search rules in
    let there : slice_get now i ≡ Some c.index_mut.result.now = slice_get_read _ _ _ _ refl below (search rules) in
    subst (λ (n : ℕ). slice_set now i c.follow.new.self ≡ map f (take n marks) ++ drop n marks) (let e : suc i ≡ i + 1 = omega arith in e)
    (set_mapped f marks now i c.index_mut.result.now c.follow.new.self c.loop-place.invariant there c.in_ok-follow.ensures)
