use Rattle.std.proofs.Common.{rules, ◌≡◌, ◌≤◌, length, refl, ◌<◌, slice_get, Some}
use Rattle.std.proofs.lemmas.Option.{slice_get_read}
use Rattle.nv_watch.proofs.Shown.{none_shown, one_shown, all_shown}
use Rattle.nv_watch.proofs.watcher.catch_up.Goals as goal

pub loop-place-init : goal.loop-place-init
loop-place-init g c = none_shown _ _

pub loop-place-preserved : goal.loop-place-preserved
loop-place-preserved g c =
    let below : c.loop-place.place < length c.loop-place.watchers.items = search rules in
    let there : slice_get c.loop-place.watchers.items c.loop-place.place ≡ Some c.index_mut.result.now = slice_get_read _ _ _ _ refl below (search rules) in
    one_shown _ _ _ _ _ _ c.loop-place.invariant there (record {
      seen = c.in_ok-catch_one_up.ensures.seen;
      same = c.in_ok-catch_one_up.ensures.same;
      rule = c.in_ok-catch_one_up.ensures.rule;
    })

pub returns-clause-caught : goal.returns-clause-caught
returns-clause-caught g c = λ i old new was is.
    let all : length c.args.watchers.now.items ≤ c.loop-place.place = search rules in
    all_shown _ _ _ _ all c.loop-place.invariant i old new was is
