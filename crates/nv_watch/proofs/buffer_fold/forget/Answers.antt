use Rattle.std.proofs.Common.{rules, ◌≡◌, ◌≤◌, ◌<◌, length, refl, slice_get, Some}
use Rattle.std.proofs.lemmas.Option.{slice_get_read}
use Rattle.nv_watch.proofs.Looking.{none_forgotten, one_forgotten, all_forgotten}
use Rattle.nv_watch.proofs.buffer_fold.forget.Goals as goal

pub loop-place-init : goal.loop-place-init
loop-place-init c = none_forgotten _

pub loop-place-preserved : goal.loop-place-preserved
loop-place-preserved c =
    let below : c.loop-place.place < length c.loop-place.all.items = search rules in
    let there : slice_get c.loop-place.all.items c.loop-place.place ≡ Some c.index_mut.result.now = slice_get_read _ _ _ _ refl below (search rules) in
    one_forgotten _ _ _ _ _ c.loop-place.invariant there c.forget_one.ensures.session c.forget_one.ensures.buffer c.forget_one.ensures.follower c.forget_one.ensures.ends

pub returns-clause-same : goal.returns-clause-same
returns-clause-same c = c.loop-place.invariant.same

pub returns-clause-apart : goal.returns-clause-apart
returns-clause-apart c = c.loop-place.invariant.apart

pub returns-clause-shares : goal.returns-clause-shares
returns-clause-shares c = λ texts.
    let all : length c.loop-place.all.items ≤ c.loop-place.place = search rules in
    all_forgotten _ _ _ texts all c.loop-place.invariant
