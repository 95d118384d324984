use Rattle.std.proofs.Common.{rules, ◌≡◌, ◌≤◌, ◌<◌, length, refl, slice_get, Some}
use Rattle.std.proofs.lemmas.Option.{slice_get_read}
use Rattle.nv_watch.proofs.Looking.{none_looked, one_looked, all_looked}
use Rattle.nv_watch.proofs.buffer_fold.look_at_all.Goals as goal

pub loop-place-init : goal.loop-place-init
loop-place-init c = none_looked _ _ _ _

pub loop-place-preserved : goal.loop-place-preserved
loop-place-preserved c =
    let below : c.loop-place.place < length c.loop-place.all.items = search rules in
    let there : slice_get c.loop-place.all.items c.loop-place.place ≡ Some c.index_mut.result.now = slice_get_read _ _ _ _ refl below (search rules) in
    one_looked _ _ _ _ _ _ _ _ _ _ _ c.loop-place.invariant there c.look-here.ensures c.either-other.ensures

pub returns : goal.returns
returns c =
    let all : length c.loop-place.all.items ≤ c.loop-place.place = search rules in
    all_looked _ _ _ _ _ _ _ all c.loop-place.invariant
