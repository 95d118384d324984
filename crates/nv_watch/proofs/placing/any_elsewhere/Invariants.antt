-- Whether one of those that are left stands elsewhere, since none did so far.
use Rattle.std.proofs.Common.{◌≡◌, drop}
use Rattle.std.specs.List.{list_any}
use Rattle.nv_model.specs.Standing.{seen_now}
use Rattle.nv_watch.specs.FollowedMarks.{is_elsewhere}
use Rattle.nv_watch.proofs.placing.any_elsewhere.Given as goal

abbrev pub invariant-loop-one : goal.invariant-loop-one
invariant-loop-one l =
    list_any (is_elsewhere (seen_now l.editor)) (drop l.one-index l.followed)
    ≡ list_any (is_elsewhere (seen_now l.editor)) l.followed
